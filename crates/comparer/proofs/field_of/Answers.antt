use Rattle.std.proofs.Common.{refl, arith}
use Rattle.comparer.proofs.Agreeing.{no_length}
use Rattle.comparison.specs.Compare.{field_of}
use Rattle.comparer.proofs.field_of.Goals as goal

pub returns-in-4-clause-value : goal.returns-in-4-clause-value
unfolding field_of
returns-in-4-clause-value c = rw c.in-4.is refl

pub returns-in-9-clause-value : goal.returns-in-9-clause-value
unfolding field_of
returns-in-9-clause-value c = rw c.in-9.is refl

pub returns-in-10-clause-value : goal.returns-in-10-clause-value
unfolding field_of
returns-in-10-clause-value c = rw c.in-10.is refl

pub returns-in_default-clause-value : goal.returns-in_default-clause-value
returns-in_default-clause-value c = let r = c.in_default in rw (no_length c.args.kind (omega (arith, r)) (omega (arith, r)) (omega (arith, r))) refl
