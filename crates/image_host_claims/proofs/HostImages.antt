-- A host's calls of `mb_raw_image_build` and `mb_raw_image_replace` meet what is claimed of replacements in a row.
use Prim.Native.Nat.{ℕ}
use mathlib.Core.List.{List}
use mathlib.Core.Path.{◌≡◌, refl, sym, ap, ◌∙◌}
use Rattle.refusal.specs.Refusals.{Decision, accepted, refused, Rule, decision}
use Rattle.refusal.proofs.Theorems.{Lines, refusing_line}
use Rattle.platform.specs.Platforms.{platform_of}
use Rattle.image.specs.Images.{Image, image_of}
use Rattle.image.specs.Index.{counts_in, build_rules, build_decision, replace_rules, replace_decision, after_replace}
use Rattle.crossing.specs.Numbers.{code_of}
use Rattle.image_claims.specs.Replacements.{Replacements}
use Rattle.image_claims.proofs.Replacements.{replacements}
use Rattle.image_host_claims.specs.HostImages.{decision_in, HostBuild, of_build, HostReplace, of_replace, built_by, build_told, handed_image, number_in, page_in, replace_told, left_image, host_building}

-- where no line of a table has the number 0 or carries a value, the code says all of its decision
told_by : (rules : List Rule) → Lines (λ test n values. decision_in n ≡ refused n values) rules → decision_in (code_of (decision rules)) ≡ decision rules
told_by rules h = go (decision rules) refl
  where
    go : (d : Decision) → decision rules ≡ d → decision_in (code_of d) ≡ d
    go accepted e = refl
    go (refused n values) e = refusing_line (λ test k carried. decision_in k ≡ refused k carried) rules h n values e

build_told_lem : (image : Image) → decision_in (code_of (build_decision image)) ≡ build_decision image
build_told_lem image = told_by (build_rules image) (refl, (refl, (refl, tt)))

replace_told_lem : (image : Image) (p : ℕ) (page : List ℕ) → decision_in (code_of (replace_decision image p page)) ≡ replace_decision image p page
replace_told_lem image p page = told_by (replace_rules image p page) (refl, (refl, (refl, (refl, (refl, tt)))))

built : (c : HostBuild) → build_told c ≡ accepted → (built_by c).index ≡ counts_in (built_by c)
built (of_build κs a x s contract) e =
    let image = image_of a.0.now a.1.0.now (platform_of a.1.1.0 a.1.1.1.0) in
    contract.1 ∙ rw (sym (build_told_lem image) ∙ sym (ap decision_in contract.0) ∙ e)

told : (c : HostReplace) → replace_told c ≡ replace_decision (handed_image c) (number_in c) (page_in c)
told (of_replace κs a x s contract) =
    let call = of_replace κs a x s contract in
    ap decision_in contract.0 ∙ replace_told_lem (handed_image call) (number_in call) (page_in call)

left : (c : HostReplace) → left_image c ≡ after_replace (handed_image c) (number_in c) (page_in c)
left (of_replace κs a x s contract) = contract.1

pub host_replacements : Replacements host_building
host_replacements = replacements host_building (record { built = built; told = told; left = left })
