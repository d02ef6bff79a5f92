use Rattle.message.specs.Prefix.{prefix_rule_lem}
use Rattle.message.proofs.reply.rule_of.Goals as goal

pub returns : goal.returns
returns c = rw (c.prefix_rule.ensures, c.prefix_of-2.ensures, c.prefix_of.ensures, prefix_rule_lem)
