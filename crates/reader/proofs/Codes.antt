-- The numbers that stand for a kind, and those that stand for none.
-- Assumes nothing.
use Rattle.std.proofs.Common.{◌≡◌, ℕ, ◌≢◌, true, false, leb, refl, arith, leb-true}
use Rattle.lists.specs.Tests.{split, both}
use Rattle.session_log.specs.Record.{is_kind}
use Rattle.reader.specs.Kind.{kind_number}
use Rattle.reader.specs.declared.Kind.{Kind}
use Rattle.reader.specs.declared.Kind.TheVariants.{Open, Close, Mode, Transmit, Receive, BusStart, BusResult, Time, Message, Configure, Unconfigure}

pub known : (kind : Kind) → is_kind (kind_number kind) ≡ true
known Open = refl
known Close = refl
known Mode = refl
known Transmit = refl
known Receive = refl
known BusStart = refl
known BusResult = refl
known Time = refl
known Message = refl
known Configure = refl
known Unconfigure = refl

pub no_kind : (k : ℕ) → k ≢ 1 → k ≢ 2 → k ≢ 3 → k ≢ 4 → k ≢ 5 → k ≢ 6 → k ≢ 7 → k ≢ 8 → k ≢ 9 → k ≢ 10 → k ≢ 11 → is_kind k ≡ false
no_kind k n1 n2 n3 n4 n5 n6 n7 n8 n9 n10 n11 = split (is_kind k)
    (λ e. let m = both (leb 1 k) (leb k 11) e in
    let low = leb-true 1 k m.0 in
    let high = leb-true k 11 m.1 in
    absurd (omega arith))
    (λ e. e)
