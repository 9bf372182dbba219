use mathlib.Core.Path.{refl}
use mathlib.Core.List.{List, [], ◌∷◌}
use mathlib.Core.Logic.{⊎_elim}
use Prim.Native.Nat.{ℕ}
use native.Mathlib.Omega.{arith}
use Rattle.isa.specs.Patterns.{matches}
use Rattle.isa16.specs.Classes.{class_of}
use Rattle.isa16.proofs.Classes.{in_run, no_line}
use Rattle.isa16.proofs.class.Goals as goal
use Rattle.isa16.proofs.class.Goals.{in_default-via-then-t-lt32+then-t-lt24, in_default-via-else-t-lt32+then-t-lt64, in_default-via-else-t-lt32+else-t-lt64+else-t-lt68+then-t-lt216, in_default-via-else-t-lt32+else-t-lt64+else-t-lt68+else-t-lt216+else-t-lt222}

-- the keys of the two matches, the last arm first, without those that are runs
abbrev singles : List (List ℕ)
singles = (0xDF ∷ []) ∷ (0xB9 ∷ 0xBB ∷ []) ∷ (0xB1 ∷ 0xB3 ∷ []) ∷ (0xBF ∷ []) ∷ (0xB2 ∷ []) ∷ (0x46 ∷ []) ∷ []

abbrev fives : List (List ℕ)
fives = (28 ∷ []) ∷ (26 ∷ []) ∷ (21 ∷ []) ∷ (19 ∷ []) ∷ (18 ∷ []) ∷ (9 ∷ []) ∷ (7 ∷ []) ∷ (6 ∷ []) ∷ (5 ∷ []) ∷ (4 ∷ []) ∷ (2 ∷ []) ∷ (1 ∷ []) ∷ (0 ∷ []) ∷ []

pub returns-in-70 : goal.returns-in-70
unfolding class_of matches
returns-in-70 c = in_run 12 0x46 1 refl c.args.t (omega arith) (omega arith)

pub returns-in-178 : goal.returns-in-178
unfolding class_of matches
returns-in-178 c = in_run 17 0xB2 1 refl c.args.t (omega arith) (omega arith)

pub returns-in-191 : goal.returns-in-191
unfolding class_of matches
returns-in-191 c = in_run 18 0xBF 1 refl c.args.t (omega arith) (omega arith)

pub returns-in-177 : goal.returns-in-177
unfolding class_of matches
returns-in-177 c = ⊎_elim (λ e. in_run 19 0xB1 1 refl c.args.t (omega arith) (omega arith)) (λ e. in_run 19 0xB3 1 refl c.args.t (omega arith) (omega arith)) c.in-177.is

pub returns-in-185 : goal.returns-in-185
unfolding class_of matches
returns-in-185 c = ⊎_elim (λ e. in_run 20 0xB9 1 refl c.args.t (omega arith) (omega arith)) (λ e. in_run 20 0xBB 1 refl c.args.t (omega arith) (omega arith)) c.in-185.is

pub returns-in-223 : goal.returns-in-223
unfolding class_of matches
returns-in-223 c = in_run 23 0xDF 1 refl c.args.t (omega arith) (omega arith)

pub returns-in-24 : goal.returns-in-24
unfolding class_of matches
returns-in-24 c = in_run 3 0x18 2 refl c.args.t (omega arith) (omega arith)

pub returns-in-26 : goal.returns-in-26
unfolding class_of matches
returns-in-26 c = in_run 4 0x1A 2 refl c.args.t (omega arith) (omega arith)

pub returns-in-28 : goal.returns-in-28
unfolding class_of matches
returns-in-28 c = in_run 5 0x1C 2 refl c.args.t (omega arith) (omega arith)

pub returns-in-30 : goal.returns-in-30
unfolding class_of matches
returns-in-30 c = in_run 6 0x1E 2 refl c.args.t (omega arith) (omega arith)

pub returns-in-64 : goal.returns-in-64
unfolding class_of matches
returns-in-64 c = in_run 11 0x40 4 refl c.args.t (omega arith) (omega arith)

pub returns-in-216 : goal.returns-in-216
unfolding class_of matches
returns-in-216 c = in_run 21 0xD8 6 refl c.args.t (omega arith) (omega arith)

pub returns-in-0 : goal.returns-in-0
unfolding class_of matches
returns-in-0 c = in_run 0 0x00 8 refl c.args.t (omega arith) (omega arith)

pub returns-in-1 : goal.returns-in-1
unfolding class_of matches
returns-in-1 c = in_run 1 0x08 8 refl c.args.t (omega arith) (omega arith)

pub returns-in-2 : goal.returns-in-2
unfolding class_of matches
returns-in-2 c = in_run 2 0x10 8 refl c.args.t (omega arith) (omega arith)

pub returns-in-4 : goal.returns-in-4
unfolding class_of matches
returns-in-4 c = in_run 7 0x20 8 refl c.args.t (omega arith) (omega arith)

pub returns-in-5 : goal.returns-in-5
unfolding class_of matches
returns-in-5 c = in_run 8 0x28 8 refl c.args.t (omega arith) (omega arith)

pub returns-in-6 : goal.returns-in-6
unfolding class_of matches
returns-in-6 c = in_run 9 0x30 8 refl c.args.t (omega arith) (omega arith)

pub returns-in-7 : goal.returns-in-7
unfolding class_of matches
returns-in-7 c = in_run 10 0x38 8 refl c.args.t (omega arith) (omega arith)

pub returns-in-9 : goal.returns-in-9
unfolding class_of matches
returns-in-9 c = in_run 13 0x48 8 refl c.args.t (omega arith) (omega arith)

pub returns-in-18 : goal.returns-in-18
unfolding class_of matches
returns-in-18 c = in_run 14 0x90 8 refl c.args.t (omega arith) (omega arith)

pub returns-in-19 : goal.returns-in-19
unfolding class_of matches
returns-in-19 c = in_run 15 0x98 8 refl c.args.t (omega arith) (omega arith)

pub returns-in-21 : goal.returns-in-21
unfolding class_of matches
returns-in-21 c = in_run 16 0xA8 8 refl c.args.t (omega arith) (omega arith)

pub returns-in-26-five : goal.returns-in-26-five
unfolding class_of matches
returns-in-26-five c = in_run 21 0xD0 8 refl c.args.t (omega arith) (omega arith)

pub returns-in-28-five : goal.returns-in-28-five
unfolding class_of matches
returns-in-28-five c = in_run 22 0xE0 8 refl c.args.t (omega arith) (omega arith)

pub returns-in_default-five : goal.returns-in_default-five
unfolding class_of matches
returns-in_default-five c =
    let t = c.args.t in
    let rest = c.in_default-1.rest in
    let five = c.field-five.ensures in
    elim c.in_default.branch [
      | in_default-via-then-t-lt32+then-t-lt24 w ↦ no_line singles fives 0x00 0x18 refl t (omega arith) (omega arith) rest five c.in_default-five.in_default-five-own.rest
      | in_default-via-else-t-lt32+then-t-lt64 w ↦ no_line singles fives 0x20 0x20 refl t (omega arith) (omega arith) rest five c.in_default-five.in_default-five-own.rest
      | in_default-via-else-t-lt32+else-t-lt64+else-t-lt68+then-t-lt216 w ↦ no_line singles fives 0x44 0x94 refl t (omega arith) (omega arith) rest five c.in_default-five.in_default-five-own.rest
      | in_default-via-else-t-lt32+else-t-lt64+else-t-lt68+else-t-lt216+else-t-lt222 w ↦ no_line singles fives 0xDE 0x22 refl t (omega arith) (omega arith) rest five c.in_default-five.in_default-five-own.rest
    ]
