use Rattle.std.proofs.Common.{arith, ◌≡◌, ◌-◌, rules, length, length-take, length-drop, append-nil, drop_of_length-le, drop, take, []}
use Rattle.message.specs.Message.{message}
use Rattle.message.proofs.Message.new.Goals as goal

pub returns : goal.returns
unfolding message
returns c =
    let bytes = c.args.bytes in
    let n = c.min-held.result in
    let long : length bytes ≡ 16 = search rules in
    let size : length (take (16 - n) (drop n bytes)) ≡ 16 - n = omega (arith, length-take (16 - n) (drop n bytes), length-drop n bytes) in
    let past : drop (16 - n) (drop n bytes) ≡ [] = drop_of_length-le (drop n bytes) {i = 16 - n} (omega (arith, length-drop n bytes)) in
    rw (c.fill.ensures.after (λ y e. e), past, append-nil, size, c.min-held.ensures)
