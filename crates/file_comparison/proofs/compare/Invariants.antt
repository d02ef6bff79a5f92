-- What is not taken yet lies in the buffers.
use Rattle.std.proofs.Common.{◌≤◌, ◌≡◌, length}
use Rattle.file_comparison.proofs.compare.Given as goal

abbrev pub invariant-loop : goal.invariant-loop
invariant-loop g l = record {
  left_len : length l.left ≡ length l.fn.left;
  right_len : length l.right ≡ length l.fn.right;
  first_begins : l.first.start ≤ l.first.end;
  first_ends : l.first.end ≤ length l.left;
  second_begins : l.second.start ≤ l.second.end;
  second_ends : l.second.end ≤ length l.right;
}
