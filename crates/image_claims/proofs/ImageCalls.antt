-- The code's calls of `build` and `replace` meet what is claimed of replacements in a row.
use mathlib.Core.Path.{◌≡◌, sym, ◌∙◌}
use Rattle.refusal.specs.Refusals.{accepted}
use Rattle.image.specs.Index.{counts_in, replace_decision, after_replace}
use Rattle.image_claims.specs.Replacements.{Replacements}
use Rattle.image_claims.specs.ImageCalls.{BuildCall, of_build, ReplaceCall, of_replace, built_by, build_told, handed_image, number_in, page_in, replace_told, left_image, code_building}
use Rattle.image_claims.proofs.Replacements.{replacements}

built : (c : BuildCall) → build_told c ≡ accepted → (built_by c).index ≡ counts_in (built_by c)
built (of_build κs a x s contract) e = contract.1 ∙ rw (sym contract.0 ∙ e)

told : (c : ReplaceCall) → replace_told c ≡ replace_decision (handed_image c) (number_in c) (page_in c)
told (of_replace κs a x s contract) = contract.0

left : (c : ReplaceCall) → left_image c ≡ after_replace (handed_image c) (number_in c) (page_in c)
left (of_replace κs a x s contract) = contract.1

pub code_replacements : Replacements code_building
code_replacements = replacements code_building (record { built = built; told = told; left = left })
