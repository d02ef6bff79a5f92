use Rattle.std.proofs.Common.{arith, rules, sym}
use Rattle.request.proofs.Sent.{sent_past, sent_within}
use Rattle.request.proofs.Request.sent_byte.Goals as goal

pub returns-then-self-i : goal.returns-then-self-i
returns-then-self-i c = let a = c.args in sym (sent_past a.self.length a.i a.self.bytes (search rules) (omega arith))

pub returns-then-i-ge16 : goal.returns-then-i-ge16
returns-then-i-ge16 c = let a = c.args in sym (sent_past a.self.length a.i a.self.bytes (search rules) (omega arith))

pub returns : goal.returns
returns c = let a = c.args in sym (sent_within a.self.length a.i a.self.bytes (search rules) (omega arith))
