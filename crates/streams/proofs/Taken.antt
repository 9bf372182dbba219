-- What a write took is what its answer says, if that isn't 0.
use Rattle.std.proofs.Common.{◌≡◌, ℕ, ◌≤◌, List, length, take, subst, sym}
use Rattle.std.specs.Prelude.{Option, Result, Ok, Err, IfOk}
use Rattle.std.specs.Result.{result_unwrap_or}
use Rattle.std.specs.Io.KnownBytes.{Appends, WriteAppends}

pub taken_appended : {E : Type 0} (old new : Option (List ℕ)) (part : List ℕ) (r : Result ℕ E) (taken : ℕ)
    → taken ≡ result_unwrap_or r 0 → (taken ≡ 0 → ⊥) → IfOk r (λ n. n ≤ length part) → WriteAppends old new r part
    → (taken ≤ length part) × Appends old new (take taken part)
taken_appended old new part (Ok n) taken e some bound bytes = subst (λ t. (t ≤ length part) × Appends old new (take t part)) (sym e) (bound, bytes)
taken_appended old new part (Err x) taken e some bound bytes = absurd (some e)
