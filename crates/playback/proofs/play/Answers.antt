-- A portion is played and the next one read; where none comes, the log was played as a whole.
use Rattle.std.proofs.Common.{rules, ◌≤◌, ◌<◌, ◌≡◌, ◌⊎◌, length, take, arith, inl, inr, subst}
use Rattle.std.specs.Io.KnownBytes.{Appends}
use Rattle.player.specs.Player.{session_of}
use Rattle.playback.proofs.Lines.{played_start, played_on, played_end, on_ok, last_line, none_ended, or_at_end}
use Rattle.playback.proofs.play.Goals as goal
use Rattle.playback.proofs.play.Goals.{then-loop-test+then-n-eq0, else-loop-test}

pub loop-init : goal.loop-init
loop-init g c = record {
  in_range = search rules;
  read_len = search rules;
  same_size = search rules;
  same_room = search rules;
  played = λ h.
      let portion = take c.in_ok-n.n c.read_portion.new.portion in
      let stopped = λ (z : length portion ≡ 0) (size : 0 < length c.args.portion.now).
      let none : c.in_ok-n.n ≡ 0 = omega (arith, c.in_ok-n.ensures.bound.1) in
      none_ended _ _ (c.in_ok-n.ensures.end none size) in
      played_start _ _ _ _ portion (length c.args.portion.now) c.fresh-player.ensures c.in_ok-n.ensures.bytes stopped;
}

pub loop-preserved : goal.loop-preserved
loop-preserved g c = record {
  in_range = search rules;
  read_len = search rules;
  same_size = search rules;
  same_room = search rules;
  played = λ h.
      let room : 29 ≤ length c.loop.out = omega (arith, c.loop.invariant.same_room) in
      let some : 0 < length (take c.loop.n c.loop.portion) = omega (arith, c.loop.invariant.read_len) in
      let next = take c.in_ok-n-2.n c.read_portion-in-loop.new.portion in
      let stopped = λ (z : length next ≡ 0) (size : 0 < length c.args.portion.now).
      let none : c.in_ok-n-2.n ≡ 0 = omega (arith, c.in_ok-n-2.ensures.bound.1) in
      let held : 0 < length c.loop.portion = omega (arith, c.loop.invariant.same_size) in
      or_at_end _ _ _ c.ended.ensures (c.in_ok-n-2.ensures.end none held) in
      played_on _ _ _ _ _ _ _ _ (take c.loop.n c.loop.portion) next c.loop.counter (length c.args.portion.now) (c.loop.invariant.played h)
      (c.in_ok-player.ensures.result_value room) (c.in_ok-player.ensures.lines room) c.in_ok-n-2.ensures.bytes stopped some;
}

pub returns-clause-lines : goal.returns-clause-lines
returns-clause-lines g c = on_ok c.write_all.result c.write_all.ensures.bytes (λ w size h.
    let room : 29 ≤ length c.loop.out = omega (arith, c.loop.invariant.same_room) in
    let said = last_line (session_of c.loop.player) c.loop.out c.finish-end.new.out c.finish-end.result.written room c.finish-end.ensures.written_value c.finish-end.ensures.out_after in
    let stopped : (length (take c.loop.n c.loop.portion) ≡ 0) ⊎ (18446744073709551615 ≤ c.loop.counter) = elim c.loop-test.branch [
      | then-loop-test+then-n-eq0 w ↦ inl (omega (arith, c.loop.invariant.read_len))
      | else-loop-test w ↦ inr (omega arith)
    ] in
    played_end _ _ _ _ _ (session_of c.loop.player) (take c.loop.n c.loop.portion) c.loop.counter (length c.args.portion.now) (c.loop.invariant.played h)
    (subst (Appends _ _) said w) size stopped)
