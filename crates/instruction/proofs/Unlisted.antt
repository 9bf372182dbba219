-- When an instruction is unlisted: exactly when nothing listed stands at the place, or its service is bad, or the target
-- that it takes is.
use Rattle.std.specs.Prelude.{Option, Some, None}
use Prim.Native.Nat.{ℕ}
use mathlib.Core.Bool.{Bool, true, false, not, true≢false}
use mathlib.Core.List.{List}
use mathlib.Core.Logic.{◌↔◌, ⊎_elim}
use mathlib.Core.Path.{◌≡◌, refl, sym, ap, ◌∙◌}
use lib.Dec.{eqb}
use lib.IntN.{pos}
use lib.ListN.{length}
use borrow.Author.Tests.{eqb-true, eqb-false, eq-eqb, ne_eqb, not-true}
use Rattle.bits.specs.Fields.{bits}
use Rattle.bits.specs.Integers.{SInt}
use Rattle.arm.specs.Conditions.{condition_holds}
use Rattle.isa.specs.declared.Instruction.{Instruction}
use Rattle.isa.specs.declared.Instruction.TheVariants.{Data, Memory, Cbz, Cbnz, Bcc, B, Service, Unlisted}
use Rattle.branch.specs.Branches.{target_of}
use Rattle.platform.specs.Programs.{Setting}
use Rattle.service.specs.Services.{service_of}
use Rattle.ending.specs.Endings.{ending_of, ending_on, ending_in}
use Rattle.ending.proofs.Theorems.{set_changes}
use Rattle.ending.specs.declared.Ending.{Ending}
use Rattle.ending.specs.declared.Ending.TheVariants as ending
use Rattle.literal.specs.declared.Service.{Service as AnyService}
use Rattle.literal.specs.declared.Service.TheVariants as service
use Rattle.state.specs.Record.{register}
use Rattle.state.specs.declared.Record.{Record}
use Rattle.access.specs.Outcomes.{Outcome, does, fails}
use Rattle.effects.specs.ServiceEffects.{service_does}
use Rattle.stop.specs.Stops.{Exit}
use Rattle.plain.specs.PlainMachine.{goes_on, exits, unlisted}
use Rattle.place.specs.Places.{instruction_at, following}
use Rattle.instruction.specs.Instructions.{end_at, branch_to, branch_if, exit_of, served_by, served, effect_of, instruction_of}
use Rattle.instruction.specs.AtPlace.{Meaningless}

-- ---- what answers with it

not_on : (r : Record) (place : ℕ) (o : Outcome) → end_at goes_on r place o ≡ unlisted → ⊥
unfolding end_at
not_on r place (does w ram) e = true≢false cc
not_on r place (fails fault) e = true≢false cc

not_exit : (exit : Exit) (r : Record) (place : ℕ) (o : Outcome) → end_at (exits exit) r place o ≡ unlisted → ⊥
unfolding end_at
not_exit exit r place (does w ram) e = true≢false cc
not_exit exit r place (fails fault) e = true≢false cc

bad_target : (r : Record) (ram : List ℕ) (t : Option ℕ) → branch_to r ram t ≡ unlisted ↔ t ≡ None
unfolding branch_to
bad_target r ram None = (λ e. refl, λ e. refl)
bad_target r ram (Some b) = (λ e. cc, λ e. cc)

bad_taken : (taken : Bool) (r : Record) (ram : List ℕ) (next : ℕ) (t : Option ℕ)
    → branch_if taken r ram next t ≡ unlisted ↔ (taken ≡ true) × (t ≡ None)
unfolding branch_if
bad_taken true r ram next t = let bad = bad_target r ram t in (λ e. (refl, bad.0 e), λ h. bad.1 h.1)
bad_taken false r ram next t = (λ e. (cc, cc), λ h. cc)

bad_served : (e : Ending) (exit : Exit) (r : Record) (next : ℕ) (o : Outcome) → served_by e exit r next o ≡ unlisted ↔ e ≡ ending.Bad
unfolding served_by
bad_served ending.GoesOn exit r next o = (λ e. absurd (not_on r next o e), λ e. cc)
bad_served ending.Exit exit r next o = (λ e. absurd (not_exit exit r next o e), λ e. cc)
bad_served ending.LastExit exit r next o = (λ e. absurd (not_exit exit r r.place o e), λ e. cc)
bad_served ending.Bad exit r next o = (λ e. refl, λ e. refl)

bad_ending : (s : AnyService) → ending_of s ≡ ending.Bad → s ≡ service.Bad
bad_ending service.Return e = cc
bad_ending (service.Call a n) e = cc
bad_ending (service.TailCall a n) e = cc
bad_ending (service.Syscall n i) e = cc
bad_ending (service.TailSyscall n i) e = cc
bad_ending (service.LongBranch a) e = cc
bad_ending service.Preload e = cc
bad_ending (service.SetBase a) e = cc
bad_ending (service.StoreAtSp t a) e = cc
bad_ending (service.LoadAtSp t a) e = cc
bad_ending (service.LowerSp words) e = cc
bad_ending (service.DirectSyscall n) e = cc
bad_ending (service.Validate n) e = cc
bad_ending service.Breakpoint e = cc
bad_ending (service.CallRegister n) e = cc
bad_ending (service.TailCallRegister n) e = cc
bad_ending service.Bad e = refl

-- whatever the set
bad_on : (set : ℕ) (s : AnyService) → ending_on set s ≡ ending.Bad ↔ s ≡ service.Bad
bad_on set s = (λ e. ⊎_elim (λ same. bad_ending s (sym same ∙ e)) (λ last. absurd (true≢false cc)) (set_changes set s), λ h. ap (ending_on set) h)

-- ---- every instruction

unlisted_each : (setting : Setting) (r : Record) (ram : List ℕ) (i : Instruction)
    → effect_of setting r ram i ≡ unlisted ↔ Meaningless setting.program.page r i
unfolding effect_of served
unlisted_each setting r ram (Data operation) = (not_on _ _ _, λ h. absurd h)
unlisted_each setting r ram (Memory access) = (not_on _ _ _, λ h. absurd h)
unlisted_each setting r ram (Cbz imm6 n) =
    let bad = bad_taken (eqb (register r n) 0) r ram (following setting.program.page r.place) (target_of r.place (pos imm6)) in
    (λ e. (eqb-true (register r n) 0 (bad.0 e).0, (bad.0 e).1), λ h. bad.1 (eq-eqb (register r n) 0 h.0, h.1))
unlisted_each setting r ram (Cbnz imm6 n) =
    let zero = eqb (register r n) 0 in
    let bad = bad_taken (not zero) r ram (following setting.program.page r.place) (target_of r.place (pos imm6)) in
    let say : not zero ≡ true ↔ (register r n ≡ 0 → ⊥) = (λ e. eqb-false _ _ (not-true zero e), λ h. rw (ne_eqb _ _ h)) in
    (λ e. (say.0 (bad.0 e).0, (bad.0 e).1), λ h. bad.1 (say.1 h.0, h.1))
unlisted_each setting r ram (Bcc condition imm8) =
    bad_taken (condition_holds condition r.flags) r ram (following setting.program.page r.place) (target_of r.place (SInt 8 imm8))
unlisted_each setting r ram (B imm11) = bad_target r ram (target_of r.place (SInt 11 (bits imm11 10 0)))
unlisted_each setting r ram (Service n) =
    let page = setting.program.page in
    let s = service_of page n in
    let bad = bad_served (ending_in setting.program n) (exit_of page n) r (following page r.place)
    (service_does (length setting.external) setting.window s r ram) in
    let on = bad_on setting.program.never_return s in
    (λ e. on.0 (bad.0 e), λ h. bad.1 (on.1 h))
unlisted_each setting r ram Unlisted = (λ e. tt, λ h. refl)

pub unlisted_iff : (setting : Setting) (r : Record) (ram : List ℕ)
    → (instruction_of setting r ram ≡ unlisted → Meaningless setting.program.page r (instruction_at setting.program r.place))
    × (Meaningless setting.program.page r (instruction_at setting.program r.place) → instruction_of setting r ram ≡ unlisted)
unfolding instruction_of
unlisted_iff setting r ram = unlisted_each setting r ram (instruction_at setting.program r.place)
