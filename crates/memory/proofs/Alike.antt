-- What accesses come to by two windows and in two RAMs, of which the second window holds what the first does, and the RAMs stay
-- related: the one law by which reads and writes keep to a window.
use Rattle.std.specs.Prelude.{Result, Ok, Err}
use Prim.Native.Nat.{ℕ, ◌+◌, ◌%◌}
use mathlib.Core.Bool.{Bool, true, false, cond, true≢false}
use mathlib.Core.List.{List}
use mathlib.Core.Path.{◌≡◌, refl, sym, ap, ◌∙◌}
use lib.Dec.{leb, eqb}
use Rattle.endian.specs.LittleEndian.{width_of, load_le, store_le}
use Rattle.endian.specs.declared.Size.{Size}
use Rattle.window.specs.Windows.{inside_window}
use Rattle.window.specs.declared.Window.{Window}
use Rattle.state.specs.declared.Base.{Base}
use Rattle.state.specs.declared.Base.TheVariants.{Nothing, Ram, External}
use Rattle.memory.specs.Faults.{fault_number}
use Rattle.memory.specs.Memory.{inside_ram, ram_access, loaded_if, ram_loaded, external_loaded, loaded_by, signed_loaded}
use Rattle.memory.specs.declared.Fault.{Fault}
use Rattle.memory.specs.declared.Fault.TheVariants.{NoBase, PastRam, OffExternalPage, OutsideWindow}

-- ---- two things that accesses come to: `Both` relates them where no fault is met, and `failing` is what a fault makes of one

pub data Alike {A : Type 0} (w v : Window) (failing : Fault → A) (Both : A → A → Type 0) (x y : A) : Type 0 where
  both : Both x y → Alike w v failing Both x y
  -- a fault that is no window's, in both
  fault : (f : Fault) → eqb (fault_number f) 7 ≡ false → x ≡ failing f → y ≡ failing f → Alike w v failing Both x y
  -- an access in RAM that the first window doesn't hold; both fail so where the second doesn't hold it either
  outside : (at bytes : ℕ) → inside_ram at bytes ≡ true → inside_window w at bytes ≡ false
      → x ≡ failing OutsideWindow → (inside_window v at bytes ≡ false → y ≡ failing OutsideWindow)
      → Alike w v failing Both x y

-- what is made of them is alike, if it keeps faults
pub alike_map : {A B : Type 0} (w v : Window) (failing : Fault → A) (failing' : Fault → B) (Both : A → A → Type 0) (Both' : B → B → Type 0)
    (f g : A → B) → ((e : Fault) → f (failing e) ≡ failing' e) → ((e : Fault) → g (failing e) ≡ failing' e)
    → ((x y : A) → Both x y → Both' (f x) (g y))
    → (x y : A) → Alike w v failing Both x y → Alike w v failing' Both' (f x) (g y)
alike_map w v failing failing' Both Both' f g ff gf k x y (both b) = both (k x y b)
alike_map w v failing failing' Both Both' f g ff gf k x y (fault e n p q) = fault e n (ap f p ∙ ff e) (ap g q ∙ gf e)
alike_map w v failing failing' Both Both' f g ff gf k x y (outside at bytes i j p q) =
    outside at bytes i j (ap f p ∙ ff OutsideWindow) (λ t. ap g (q t) ∙ gf OutsideWindow)

-- ---- what is asked of windows and RAMs

pub record Related (w v : Window) (S : List ℕ → List ℕ → Type 0) : Type 0 where
  pub wider : (at bytes : ℕ) → inside_ram at bytes ≡ true → inside_window w at bytes ≡ true → inside_window v at bytes ≡ true
  pub reads : (a b : List ℕ) → S a b → (at bytes : ℕ) → inside_window w at bytes ≡ true → load_le bytes a at ≡ load_le bytes b at
  pub writes : (a b : List ℕ) → S a b → (at bytes x : ℕ) → inside_window w at bytes ≡ true → S (store_le bytes a at x) (store_le bytes b at x)

-- ---- accesses

-- both are done, and the first window holds the access
abbrev pub BothPass : Window → ℕ → ℕ → Result Unit Fault → Result Unit Fault → Type 0
BothPass w at bytes x y = (x ≡ Ok tt) × (y ≡ Ok tt) × (inside_window w at bytes ≡ true)

abbrev pub BothLoaded : Result ℕ Fault → Result ℕ Fault → Type 0
BothLoaded x y = (n : ℕ) × (x ≡ Ok n) × (y ≡ Ok n)

abbrev pub LoadsAlike : Window → Window → Result ℕ Fault → Result ℕ Fault → Type 0
LoadsAlike w v = Alike w v Err BothLoaded

-- what doesn't read RAM
pub same_loads : (w v : Window) (t : Bool) (n : ℕ) (f : Fault) → eqb (fault_number f) 7 ≡ false
    → LoadsAlike w v (cond t (Ok n) (Err f)) (cond t (Ok n) (Err f))
same_loads w v true n f l = both (n, refl, refl)
same_loads w v false n f l = fault f l refl refl

-- the sign extended
pub signed_loads : (w v : Window) (size : Size) (x y : Result ℕ Fault) → LoadsAlike w v x y → LoadsAlike w v (signed_loaded size x) (signed_loaded size y)
signed_loads w v size =
    alike_map w v Err Err BothLoaded BothLoaded (signed_loaded size) (signed_loaded size) (λ e. refl) (λ e. refl)
    (λ x y l. (_, ap (signed_loaded size) l.1, ap (signed_loaded size) l.2))

module _ (w v : Window) (S : List ℕ → List ℕ → Type 0) (h : Related w v S) where
  pub accesses : (at bytes : ℕ) (past : Fault) → eqb (fault_number past) 7 ≡ false
      → Alike w v Err (BothPass w at bytes) (ram_access w at bytes past) (ram_access v at bytes past)
  unfolding ram_access
  accesses at bytes past n = go (inside_ram at bytes) (inside_window w at bytes) (inside_window v at bytes) refl refl refl
    where
      by : Bool → Bool → Result Unit Fault
      by i p = cond i (cond p (Ok tt) (Err OutsideWindow)) (Err past)

      go : (i p q : Bool) → inside_ram at bytes ≡ i → inside_window w at bytes ≡ p → inside_window v at bytes ≡ q
          → Alike w v Err (BothPass w at bytes) (by i p) (by i q)
      go false p q ei ep eq = fault past n refl refl
      go true true true ei ep eq = both (refl, refl, ep)
      go true true false ei ep eq = absurd (true≢false (sym (h.wider at bytes ei ep) ∙ eq))
      go true false true ei ep eq = outside at bytes ei ep refl (λ t. absurd (true≢false (sym eq ∙ t)))
      go true false false ei ep eq = outside at bytes ei ep refl (λ t. refl)

  module _ (a b : List ℕ) (s : S a b) where
    pub ram_loads : (at : ℕ) (size : Size) (past : Fault) → eqb (fault_number past) 7 ≡ false
        → LoadsAlike w v (ram_loaded w a at size past) (ram_loaded v b at size past)
    unfolding ram_loaded
    ram_loads at size past n =
        alike_map w v Err Err (BothPass w at bytes) BothLoaded (found a) (found b) (λ e. refl) (λ e. refl)
        (λ x y d. (load_le bytes a at, ap (found a) d.0, ap (found b) d.1 ∙ ap Ok (sym (h.reads a b s at bytes d.2))))
        _ _ (accesses at bytes past n)
      where
        bytes : ℕ
        bytes = width_of size

        found : List ℕ → Result Unit Fault → Result ℕ Fault
        found ram t = loaded_if t (load_le bytes ram at)

    pub base_loads : (base : Base) (needs_ram : Bool) (external : List ℕ) (imm12 : ℕ) (size : Size)
        → LoadsAlike w v (loaded_by base needs_ram w a external imm12 size) (loaded_by base needs_ram v b external imm12 size)
    unfolding loaded_by external_loaded
    base_loads Nothing needs_ram external imm12 size = fault NoBase refl refl refl
    base_loads (Ram offset) needs_ram external imm12 size = ram_loads (offset + imm12) size PastRam refl
    base_loads (External offset) true external imm12 size = fault NoBase refl refl refl
    base_loads (External offset) false external imm12 size = same_loads w v (leb (offset % 256 + imm12 + width_of size) 256) _ OffExternalPage refl
