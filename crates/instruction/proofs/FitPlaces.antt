-- Where an instruction at a fit place goes: it is listed, and every place that its flow may lead to is fit.
use Prim.Native.Nat.{ℕ, ◌+◌, ◌*◌, ◌/◌, ◌%◌, ◌<◌}
use native.Mathlib.Omega.{arith}
use mathlib.Core.Bool.{Bool, true, false, not, ◌&&◌, ◌||◌, cond, true≢false, false≢true}
use mathlib.Core.List.{List, [], ◌∷◌}
use mathlib.Core.Path.{◌≡◌, refl}
use lib.Dec.{ltb}
use borrow.Author.Tests.{ltb-true, lt-ltb, eqb-true, eqb-false, not-true}
use Rattle.laws.proofs.Tests.{both}
use Rattle.refusal.specs.Refusals.{accepted, decision}
use Rattle.page.specs.Page.{bundles_in, first_of, second_of}
use Rattle.platform.specs.Programs.{Program, decode16_in, decode32_in, program_rules, encodings_in}
use Rattle.prefix.specs.Prefix.{bad, goes, Within, AllBelow}
use Rattle.prefix.specs.LargestSuccessor.{insert}
use Rattle.prefix.proofs.Successors.{insert_below}
use Rattle.prefix.proofs.Theorems.{definition}
use Rattle.isa.specs.ListedEncodings.{opens32, listed32, word_of}
use Rattle.isa.specs.Profiles.{Encodings, decode32_by}
use Rattle.isa.proofs.Profiles.{decoded}
use Rattle.isa.specs.declared.Instruction.{Instruction}
use Rattle.isa.specs.declared.Instruction.TheVariants.{Data, Memory, Cbz, Cbnz, Bcc, B, Service, Unlisted}
use Rattle.flow.specs.Flow.{terminator, jump_of, flow_by, flow_of, listed}
use Rattle.bundle.specs.Successors.{after_second, after_first, wide, narrow, successors_of}
use Rattle.flow.specs.declared.Jump.{Jump}
use Rattle.flow.specs.declared.Jump.TheVariants.{NoJump, JumpTo}
use Rattle.flow.specs.declared.Jump.TheVariants as jump
use Rattle.flow.specs.declared.Flow.{Flow}
use Rattle.flow.specs.declared.Flow.TheVariants.{Bad, Next, NextOr, To, Ends}
use Rattle.count.specs.Count.{count_of, count_program}
use Rattle.place.specs.Places.{is_even, stands_in, instruction_at, following, second_fits, fit_below, fit_place}

-- what holds of a flow's target and of what stands behind it; a bad flow leads nowhere
abbrev Leads : (ℕ → Type 0) → Type 0 → Flow → Type 0
Leads Target Behind Bad = ⊥
Leads Target Behind Next = Behind
Leads Target Behind (NextOr b) = Target b × Behind
Leads Target Behind (To b) = Target b
Leads Target Behind Ends = Unit {0}

leads_map : {Target Target' : ℕ → Type 0} {Behind Behind' : Type 0} → ((b : ℕ) → Target b → Target' b) → (Behind → Behind')
    → (f : Flow) → Leads Target Behind f → Leads Target' Behind' f
leads_map t n Bad h = h
leads_map t n Next h = n h
leads_map t n (NextOr b) h = (t b h.0, n h.1)
leads_map t n (To b) h = t b h
leads_map t n Ends h = h

-- ---- two 16-bit instructions of a bundle that lies within m

-- the second, behind a first whose targets are bs
second_leads : (m next : ℕ) (bs : List ℕ) (f : Flow) → Within m (after_second bs f next)
    → Leads (λ b. b < m) (next < m) f × AllBelow m bs
second_leads m next bs Bad h = absurd h
second_leads m next bs Ends h = (tt, h)
second_leads m next bs (To b) h = insert_below m b bs h
second_leads m next bs Next h = insert_below m next bs h
second_leads m next bs (NextOr b) h =
    let outer = insert_below m b (insert next bs) h in
    let inner = insert_below m next bs outer.1 in
    ((outer.0, inner.0), inner.1)

if_listed : (m : ℕ) (l : Bool) (ss : List ℕ) → Within m (cond l (goes ss) bad) → (l ≡ true) × AllBelow m ss
if_listed m true ss h = (refl, h)
if_listed m false ss h = absurd h

-- the first, by whether it terminates and where it jumps, and the second, which comes only behind a first that is no terminator
first_leads : (m next : ℕ) (terminates l : Bool) (j : Jump) (g : Flow) → Within m (after_first (flow_by terminates j) l g next)
    → Leads (λ b. b < m) (terminates ≡ false) (flow_by terminates j) × (terminates ≡ false → Leads (λ b. b < m) (next < m) g)
first_leads m next t l jump.Bad g h = absurd h
first_leads m next true l NoJump g h = (tt, λ n. absurd (true≢false n))
first_leads m next true l (JumpTo b) g h = ((if_listed m l (b ∷ []) h).1.0, λ n. absurd (true≢false n))
first_leads m next false l NoJump g h = (refl, λ n. (second_leads m next [] g h).0)
first_leads m next false l (JumpTo b) g h = let rest = second_leads m next (b ∷ []) g h in ((rest.1.0, refl), λ n. rest.0)

-- ---- a 32-bit instruction goes on to the next

abbrev pub Straight : Instruction → Type 0
Straight (Data operation) = Unit {0}
Straight (Memory access) = Unit {0}
Straight (Cbz imm6 n) = ⊥
Straight (Cbnz imm6 n) = ⊥
Straight (Bcc condition imm8) = ⊥
Straight (B imm11) = ⊥
Straight (Service n) = ⊥
Straight Unlisted = Unit {0}

-- whatever the set of listed encodings is
pub wide_straight : (encodings : Encodings) (first second : ℕ) → Straight (decode32_by encodings first second)
wide_straight encodings first second = decoded Straight tt encodings listed32 (omega arith) (word_of first second)

straight_next : (program : Program) (place : ℕ) (i : Instruction) → Straight i → listed i ≡ true → flow_of program place i ≡ Next
unfolding flow_of
straight_next program place (Data operation) s l = refl
straight_next program place (Memory access) s l = refl
straight_next program place (Cbz imm6 n) s l = absurd s
straight_next program place (Cbnz imm6 n) s l = absurd s
straight_next program place (Bcc condition imm8) s l = absurd s
straight_next program place (B imm11) s l = absurd s
straight_next program place (Service n) s l = absurd s
straight_next program place Unlisted s l = absurd (false≢true l)

-- ---- bundle k, by its halfwords a and b, which lies within m

two_narrow : (program : Program) (a b : ℕ) → second_fits program a b ≡ true
    → (opens32 a ≡ false) × (opens32 b ≡ false) × (terminator program (decode16_in program a) ≡ false)
unfolding second_fits
two_narrow program a b s =
    let goes_on = both (not (opens32 a) && not (opens32 b)) (not (terminator program (decode16_in program a))) s in
    let opens = both (not (opens32 a)) (not (opens32 b)) goes_on.0 in
    (not-true (opens32 a) opens.0, not-true (opens32 b) opens.1, not-true (terminator program (decode16_in program a)) goes_on.1)

module _ (program : Program) (m k a b : ℕ) where
  abbrev Inside : Bool → Bool → Type 0
  Inside wide_first wide_second =
      Within m (cond wide_first (wide (decode32_in program a b) (k + 1)) (cond wide_second bad (narrow program k (decode16_in program a) (decode16_in program b))))

  pair_leads : Inside false false
      → Leads (λ t. t < m) (terminator program (decode16_in program a) ≡ false) (flow_of program (2 * k) (decode16_in program a))
      × (terminator program (decode16_in program a) ≡ false → Leads (λ t. t < m) (k + 1 < m) (flow_of program (2 * k + 1) (decode16_in program b)))
  unfolding flow_of
  pair_leads c =
      let i = decode16_in program a in
      let j = decode16_in program b in
      first_leads m (k + 1) (terminator program i) (listed j) (jump_of program (2 * k) i) (flow_of program (2 * k + 1) j) c

  -- behind a 32-bit instruction the next bundle stands, behind a 16-bit one the second
  abbrev BehindFirst : Bool → Type 0
  BehindFirst true = k + 1 < m
  BehindFirst false = second_fits program a b ≡ true

  first_half : (place : ℕ) → place ≡ 2 * k → Inside (opens32 a) (opens32 b)
      → Leads (λ t. t < m) (BehindFirst (opens32 a)) (flow_of program place (stands_in (encodings_in program) true a b))
  unfolding stands_in second_fits
  first_half place e c = rw e (go (opens32 a) (opens32 b) refl refl c)
    where
      go : (x y : Bool) → opens32 a ≡ x → opens32 b ≡ y → Inside x y
          → Leads (λ t. t < m) (BehindFirst x) (flow_of program (2 * k) (cond x (decode32_in program a b) (decode16_in program a)))
      go true y p q c =
          let next = if_listed m (listed (decode32_in program a b)) ((k + 1) ∷ []) c in
          rw (straight_next program (2 * k) (decode32_in program a b) (wide_straight (encodings_in program) a b) next.0) next.1.0
      go false true p q c = absurd c
      go false false p q c = leads_map (λ t h. h) (λ n. rw (p, q, n)) (flow_of program (2 * k) (decode16_in program a)) (pair_leads c).0

  second_half : (place : ℕ) → place ≡ 2 * k + 1 → Inside (opens32 a) (opens32 b) → second_fits program a b ≡ true
      → Leads (λ t. t < m) (k + 1 < m) (flow_of program place (stands_in (encodings_in program) false a b))
  unfolding stands_in
  second_half place e c s =
      let n = two_narrow program a b s in
      rw (e, n.0) ((pair_leads (rw (n.0, n.1) at c)).1 n.2)

-- ---- fit places

-- the flow at a place leads only to fit places
abbrev pub LeadsFrom : Program → ℕ → Flow → Type 0
LeadsFrom program place = Leads (λ b. fit_place program (2 * b) ≡ true) (fit_place program (following program.page place) ≡ true)

module _ (program : Program) (f : decision (program_rules program) ≡ accepted) where
  counted : (count_program program).count ≡ count_of program
  counted = rw f

  fits : (place : ℕ) → place / 2 < count_of program
      → (is_even place || second_fits program (first_of program.page (place / 2)) (second_of program.page (place / 2))) ≡ true → fit_place program place ≡ true
  unfolding fit_below
  fits place l h = rw (counted, lt-ltb (place / 2) (count_of program) l) h

  -- every bundle below the count is fit to jump to
  pub bundle_fits : (b : ℕ) → b < count_of program → fit_place program (2 * b) ≡ true
  bundle_fits b l = let even : 2 * b % 2 ≡ 0 = omega arith in fits (2 * b) (omega arith) (rw even)

  stands : (place : ℕ) → place / 2 < count_of program
      → instruction_at program place ≡ stands_in (encodings_in program) (is_even place) (first_of program.page (place / 2)) (second_of program.page (place / 2))
  unfolding instruction_at
  stands place l =
      let inside = (definition (successors_of program) (bundles_in program.page)).inside in
      rw (lt-ltb (place / 2) (bundles_in program.page) (omega (arith, inside)))

  closed : (k : ℕ) → k < count_of program
      → Inside program (count_of program) k (first_of program.page k) (second_of program.page k) (opens32 (first_of program.page k)) (opens32 (second_of program.page k))
  unfolding successors_of
  closed = (definition (successors_of program) (bundles_in program.page)).closed

  -- behind an even place
  behind_even : (place : ℕ) → place % 2 ≡ 0 → place / 2 < count_of program → (wide_first : Bool)
      → BehindFirst program (count_of program) (place / 2) (first_of program.page (place / 2)) (second_of program.page (place / 2)) wide_first
      → fit_place program (place + cond wide_first 2 1) ≡ true
  behind_even place e l true h =
      let next : place + 2 ≡ 2 * (place / 2 + 1) = omega arith in
      rw next (bundle_fits (place / 2 + 1) h)
  behind_even place e l false h =
      let half : (place + 1) / 2 ≡ place / 2 = omega arith in
      let odd : (place + 1) % 2 ≡ 1 = omega arith in
      fits (place + 1) (omega arith) (rw (half, odd) h)

  -- from a fit place an instruction leads only to fit places
  pub leads : (place : ℕ) → fit_place program place ≡ true → LeadsFrom program place (flow_of program place (instruction_at program place))
  unfolding fit_below following
  leads place e =
      let h = both (ltb (place / 2) (count_program program).count) (is_even place || second_fits program first second) e in
      let l : place / 2 < count_of program = ltb-true (place / 2) (count_of program) (rw counted at h.0) in
      rw (stands place l) (go (is_even place) refl h.1 l)
    where
      first : ℕ
      first = first_of program.page (place / 2)

      second : ℕ
      second = second_of program.page (place / 2)

      go : (even : Bool) → is_even place ≡ even → (even || second_fits program first second) ≡ true → place / 2 < count_of program
          → LeadsFrom program place (flow_of program place (stands_in (encodings_in program) even first second))
      go true p s l =
          let even = eqb-true (place % 2) 0 p in
          leads_map bundle_fits (behind_even place even l (opens32 first)) (flow_of program place (stands_in (encodings_in program) true first second))
          (first_half program (count_of program) (place / 2) first second place (omega arith) (closed (place / 2) l))
      go false p s l =
          let odd = eqb-false (place % 2) 0 p in
          let next : place + 1 ≡ 2 * (place / 2 + 1) = omega arith in
          let n = two_narrow program first second s in
          leads_map bundle_fits (λ h. rw (n.0, next) (bundle_fits (place / 2 + 1) h)) (flow_of program place (stands_in (encodings_in program) false first second))
          (second_half program (count_of program) (place / 2) first second place (omega arith) (closed (place / 2) l) s)

-- an instruction that leads anywhere is listed
pub leads_listed : (program : Program) (place : ℕ) (i : Instruction) → LeadsFrom program place (flow_of program place i) → listed i ≡ true
unfolding flow_of
leads_listed program place (Data operation) h = refl
leads_listed program place (Memory access) h = refl
leads_listed program place (Cbz imm6 n) h = refl
leads_listed program place (Cbnz imm6 n) h = refl
leads_listed program place (Bcc condition imm8) h = refl
leads_listed program place (B imm11) h = refl
leads_listed program place (Service n) h = refl
leads_listed program place Unlisted h = absurd h
