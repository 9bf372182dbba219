-- Words of 32 bits, from bytes and from what a listed data-processing instruction writes.
use Rattle.std.specs.Prelude.{Option, Some, None}
use Prim.Native.Nat.{ℕ, zero, suc, ◌+◌, ◌-◌, ◌*◌, ◌/◌, ◌%◌, ◌^◌, ◌<◌}
use native.Mathlib.Nat.{lt_of_le_of_lt, div-le_self}
use native.Mathlib.Omega.{arith}
use mathlib.Core.Bool.{Bool, true, false, cond}
use mathlib.Core.List.{List, [], ◌∷◌}
use lib.Bits.{and_lt, or_lt, xor_lt}
use lib.Dec.{eqb, ltb}
use lib.ListN.{get_or, set, take}
use lib.Pow.{shr_le}
use lib.Signed.{quot_z, shr_z}
use Rattle.bits.proofs.Integers.{low_lt}
use Rattle.bits.specs.Fields.{bits}
use Rattle.bits.specs.Integers.{SInt}
use Rattle.words.specs.Bitwise.{not_word, sign_extended}
use Rattle.words.specs.Products.{unsigned_quotient, signed_quotient}
use Rattle.words.specs.Shifts.{immediate_amount, unless_zero, lsl_c, lsr_c, asr_c, ror_c}
use Rattle.arm.specs.declared.Flags.{Flags}
use Rattle.words.specs.declared.Shifted.{Shifted}
use Rattle.page.specs.Page.{bundles_in, first_of, second_of}
use Rattle.endian.specs.LittleEndian.{width_of, load_le, store_le}
use Rattle.endian.proofs.Theorems.{load_below}
use Rattle.endian.specs.declared.Size.{Size}
use Rattle.endian.specs.declared.Size.TheVariants.{Byte, Halfword, Word}
use Rattle.isa.specs.ListedEncodings.{opens32, listed16, listed32, imm16_of, word_of}
use Rattle.isa.specs.Profiles.{Encodings, decode16_by, decode32_by}
use Rattle.isa.proofs.Profiles.{EachRow, decoded}
use Rattle.isa.specs.declared.Instruction.{Instruction}
use Rattle.isa.specs.declared.Instruction.TheVariants.{Data, Memory, Cbz, Cbnz, Bcc, B, Unlisted}
use Rattle.isa.specs.declared.Instruction.TheVariants as instruction
use Rattle.state.specs.Record.{register_in}
use Rattle.compute.specs.Computed.{low_byte, computed}
use Rattle.platform.specs.Programs.{Program, encodings_in}
use Rattle.place.specs.Places.{is_even, stands_in, instruction_at}

-- ---- lists of numbers below a bound

abbrev pub Below : ℕ → List ℕ → Type 0
Below bound xs = (k : ℕ) → get_or xs k 0 < bound

pub below_set : (bound : ℕ) (xs : List ℕ) (i x : ℕ) → Below bound xs → x < bound → Below bound (set xs i x)
below_set bound [] i x h l k = h k
below_set bound (y ∷ ys) zero x h l zero = l
below_set bound (y ∷ ys) zero x h l (suc k) = h (suc k)
below_set bound (y ∷ ys) (suc i) x h l zero = h 0
below_set bound (y ∷ ys) (suc i) x h l (suc k) = below_set bound ys i x (λ j. h (suc j)) l k

pub below_take : (bound n : ℕ) (xs : List ℕ) → Below bound xs → 0 < bound → Below bound (take n xs)
below_take bound zero xs h p k = p
below_take bound (suc n) [] h p k = p
below_take bound (suc n) (x ∷ xs) h p zero = h 0
below_take bound (suc n) (x ∷ xs) h p (suc k) = below_take bound n xs (λ j. h (suc j)) p k

pub below_store : (size : ℕ) (bytes : List ℕ) (at x : ℕ) → Below 256 bytes → Below 256 (store_le size bytes at x)
below_store zero bytes at x h = h
below_store (suc size) bytes at x h = below_store size (set bytes at (x % 256)) (at + 1) (x / 256) (below_set 256 bytes at (x % 256) h (omega arith))

pub loaded_word : (size : Size) (bytes : List ℕ) (at : ℕ) → Below 256 bytes → load_le (width_of size) bytes at < 2 ^ 32
loaded_word Byte bytes at h = omega (arith, load_below 1 bytes at h)
loaded_word Halfword bytes at h = omega (arith, load_below 2 bytes at h)
loaded_word Word bytes at h = load_below 4 bytes at h

-- ---- values of 32 bits

word : (x : ℕ) → x % 2 ^ 32 < 2 ^ 32
word x = omega arith

inverse : (x : ℕ) → not_word x < 2 ^ 32
inverse x = omega arith

pub extended_word : (n x : ℕ) → sign_extended n x < 2 ^ 32
extended_word n x = low_lt (SInt n x)

unless_word : (x n : ℕ) (carry : Bool) (s : Shifted) → x < 2 ^ 32 → s.value < 2 ^ 32 → (unless_zero x n carry s).value < 2 ^ 32
unless_word x n carry s h l = go (eqb n 0)
  where
    go : (t : Bool) → (cond t (record { value = x; carry = carry }) s).value < 2 ^ 32
    go true = h
    go false = l

module _ (x n : ℕ) (f : Flags) (h : x < 2 ^ 32) where
  lsl_word : (lsl_c x n f.c).value < 2 ^ 32
  lsl_word = unless_word x n f.c _ h (word (x * 2 ^ n))

  lsr_word : (lsr_c x n f.c).value < 2 ^ 32
  lsr_word = unless_word x n f.c _ h (lt_of_le_of_lt (shr_le x n) h)

  asr_word : (asr_c x n f.c).value < 2 ^ 32
  asr_word = unless_word x n f.c _ h (low_lt (shr_z (SInt 32 x) (2 ^ n)))

  ror_word : (ror_c x n f.c).value < 2 ^ 32
  ror_word = unless_word x n f.c _ h (or_lt 32 _ _ (lt_of_le_of_lt (shr_le x (n % 32)) h) (word (x * 2 ^ (32 - n % 32))))

sdiv_word : (x y : ℕ) → signed_quotient x y < 2 ^ 32
sdiv_word x y = go (eqb y 0) _ (low_lt (quot_z (SInt 32 x) (SInt 32 y)))
  where
    go : (t : Bool) (q : ℕ) → q < 2 ^ 32 → cond t 0 q < 2 ^ 32
    go true q l = omega arith
    go false q l = l

udiv_word : (x y : ℕ) → x < 2 ^ 32 → unsigned_quotient x y < 2 ^ 32
udiv_word x y h = go (eqb y 0)
  where
    go : (t : Bool) → cond t 0 (x / y) < 2 ^ 32
    go true = omega arith
    go false = lt_of_le_of_lt (div-le_self x y) h

imm16_below : (w : ℕ) → imm16_of w < 2 ^ 16
imm16_below w = by (bits w 19 16) (bits w 26 26) (bits w 14 12) (bits w 7 0) (omega arith) (omega arith) (omega arith) (omega arith)
  where
    by : (a b c d : ℕ) → a < 16 → b < 2 → c < 8 → d < 256 → a * 2 ^ 12 + b * 2 ^ 11 + c * 2 ^ 8 + d < 2 ^ 16
    by a b c d p q r s = omega arith

-- ---- what a listed data-processing instruction writes

abbrev pub WordWritten : Option (ℕ × ℕ) → Type 0
WordWritten None = Unit {0}
WordWritten (Some (d, x)) = x < 2 ^ 32

-- what is written is a word, whatever the registers are; a service's low byte is a byte
abbrev pub InWidth : Instruction → Type 0
InWidth (Data operation) =
    (regs : List ℕ) (sp : ℕ) (f : Flags) → Below (2 ^ 32) regs → WordWritten (computed operation regs sp f).register
InWidth (Memory access) = Unit {0}
InWidth (Cbz imm6 n) = Unit {0}
InWidth (Cbnz imm6 n) = Unit {0}
InWidth (Bcc condition imm8) = Unit {0}
InWidth (B imm11) = Unit {0}
InWidth (instruction.Service n) = n < 256
InWidth Unlisted = Unit {0}

-- each row, in the order of the listed encodings
infixr 5 ◌&◌
◌&◌ : {A B : Type 0} → A → B → A × B
a & b = (a, b)

rows16 : EachRow InWidth listed16
rows16 =
    (λ w regs sp f h. lsl_word (register_in regs (bits w 5 3)) (bits w 10 6) f (h _))
    & (λ w regs sp f h. lsr_word (register_in regs (bits w 5 3)) (immediate_amount (bits w 10 6)) f (h _))
    & (λ w regs sp f h. asr_word (register_in regs (bits w 5 3)) (immediate_amount (bits w 10 6)) f (h _))
    & (λ w regs sp f h. word _)
    & (λ w regs sp f h. word _)
    & (λ w regs sp f h. word _)
    & (λ w regs sp f h. word _)
    & (λ w regs sp f h. omega arith)
    & (λ w regs sp f h. tt)
    & (λ w regs sp f h. word _)
    & (λ w regs sp f h. word _)
    & (λ w regs sp f h. and_lt 32 _ _ (h _) (h _))
    & (λ w regs sp f h. xor_lt 32 _ _ (h _) (h _))
    & (λ w regs sp f h. lsl_word (register_in regs (bits w 2 0)) (low_byte (register_in regs (bits w 5 3))) f (h _))
    & (λ w regs sp f h. lsr_word (register_in regs (bits w 2 0)) (low_byte (register_in regs (bits w 5 3))) f (h _))
    & (λ w regs sp f h. asr_word (register_in regs (bits w 2 0)) (low_byte (register_in regs (bits w 5 3))) f (h _))
    & (λ w regs sp f h. word _)
    & (λ w regs sp f h. word _)
    & (λ w regs sp f h. ror_word (register_in regs (bits w 2 0)) (low_byte (register_in regs (bits w 5 3))) f (h _))
    & (λ w regs sp f h. tt)
    & (λ w regs sp f h. word _)
    & (λ w regs sp f h. tt)
    & (λ w regs sp f h. tt)
    & (λ w regs sp f h. or_lt 32 _ _ (h _) (h _))
    & (λ w regs sp f h. word _)
    & (λ w regs sp f h. and_lt 32 _ _ (h _) (inverse _))
    & (λ w regs sp f h. inverse _)
    & (λ w regs sp f h. h _)
    & (λ w. tt)
    & (λ w. tt)
    & (λ w. tt)
    & (λ w regs sp f h. word _)
    & (λ w regs sp f h. extended_word 16 (bits (register_in regs (bits w 5 3)) 15 0))
    & (λ w regs sp f h. extended_word 8 (bits (register_in regs (bits w 5 3)) 7 0))
    & (λ w regs sp f h. omega arith)
    & (λ w regs sp f h. omega arith)
    & (λ w regs sp f h. tt)
    & (λ w. tt)
    & (λ w. tt)
    & (λ w. tt)
    & (λ w. tt)
    & (λ w. tt)
    & (λ w. tt)
    & (λ w. omega arith)
    & (λ w. omega arith)
    & (λ w. omega arith)
    & (λ w. omega arith)
    & (λ w. omega arith)
    & (λ w. omega arith)
    & (λ w. omega arith)
    & tt

rows32 : EachRow InWidth listed32
rows32 =
    (λ w. tt)
    & (λ w. tt)
    & (λ w. tt)
    & (λ w. tt)
    & (λ w. tt)
    & (λ w. tt)
    & (λ w. tt)
    & (λ w. tt)
    & (λ w regs sp f h. omega (arith, imm16_below w))
    & (λ w regs sp f h. omega (arith, imm16_below w))
    & (λ w regs sp f h. sdiv_word (register_in regs (bits w 18 16)) (register_in regs (bits w 2 0)))
    & (λ w regs sp f h. udiv_word (register_in regs (bits w 18 16)) (register_in regs (bits w 2 0)) (h _))
    & tt

pub in_width : (program : Program) (place : ℕ) → InWidth (instruction_at program place)
unfolding instruction_at stands_in
in_width program place =
    let first = first_of program.page (place / 2) in
    go (ltb (place / 2) (bundles_in program.page)) (opens32 first) (is_even place) first (second_of program.page (place / 2))
  where
    encodings : Encodings
    encodings = encodings_in program

    go : (inside wide even : Bool) (first second : ℕ)
        → InWidth (cond inside (cond wide (cond even (decode32_by encodings first second) Unlisted) (decode16_by encodings (cond even first second))) Unlisted)
    go true true true first second = decoded InWidth tt encodings listed32 rows32 (word_of first second)
    go true true false first second = tt
    go true false even first second = decoded InWidth tt encodings listed16 rows16 (cond even first second)
    go false wide even first second = tt
