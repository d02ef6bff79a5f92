-- Answers to questions on two addresses, worked out by hand (document 02, W-205).
-- Assumes nothing.
use Rattle.std.specs.Prelude.{ℕ, Bool, true, false, List, [], ◌∷◌}
use Rattle.constants.specs.Kernel.{EINVAL}
use Rattle.route.specs.Route.{refused_route}
use Rattle.route.specs.declared.Route.{Route}

pub record Question : Type 0 where
  pub first : ℕ
  pub second : ℕ
  pub gives : Route

-- from the first to the second: ancestor, on the path or not, port
abbrev pub way : ℕ → ℕ → ℕ → Bool → ℕ → Question
way a b x on p = record { first = a; second = b; gives = record { errno = 0; ancestor = x; on_path = on; port = p } }

abbrev pub ill_formed : ℕ → ℕ → Question
ill_formed a b = record { first = a; second = b; gives = refused_route EINVAL }

abbrev pub questions : List Question
questions =
    -- from 0.0.0.0, and to it
    way 0x0000 0x0000 0x0000 true 0
    ∷ way 0x0000 0x2100 0x0000 true 2
    ∷ way 0x2100 0x0000 0x0000 false 0
    -- from each ancestor, from the address itself, and from its child
    ∷ way 0x1000 0x12F4 0x1000 true 2
    ∷ way 0x1200 0x12F4 0x1200 true 15
    ∷ way 0x12F0 0x12F4 0x12F0 true 4
    ∷ way 0x12F4 0x12F4 0x12F4 true 0
    ∷ way 0x1234 0x1230 0x1230 false 0
    -- beside the path: at each depth, and at two
    ∷ way 0x1111 0x2111 0x0000 false 0
    ∷ way 0x1111 0x1211 0x1000 false 0
    ∷ way 0x1111 0x1121 0x1100 false 0
    ∷ way 0x1111 0x1112 0x1110 false 0
    ∷ way 0x2000 0x1234 0x0000 false 0
    ∷ way 0x1234 0x1300 0x1000 false 0
    -- 15 is a port like any, though 15.15.15.15 is no address
    ∷ way 0xFFF0 0xFFFE 0xFFF0 true 14
    ∷ way 0x0000 0xF000 0x0000 true 15
    ∷ ill_formed 0xFFFF 0x1000
    ∷ ill_formed 0x0000 0xFFFF
    -- a digit after a zero, in either address
    ∷ ill_formed 0x0100 0x1000
    ∷ ill_formed 0x1010 0x1000
    ∷ ill_formed 0x1000 0x1001
    ∷ ill_formed 0x1000 0x0001
    ∷ ill_formed 0x1010 0x1010
    ∷ []
