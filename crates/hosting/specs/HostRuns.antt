-- A step and a run as the host sees them, on a lone page and in page p of an image.
use Rattle.std.specs.Prelude.{ℕ, List}
use Rattle.platform.specs.Programs.{Setting}
use Rattle.admission.specs.RunRefusals.{area_rules}
use Rattle.machine.specs.Runs.{run_of}
use Rattle.image_runs.specs.ImageRuns.{ImageSetting, image_area_rules, image_run_of}
use Rattle.hosting.specs.Crossed.{Crossed, host_call}

abbrev pub host_run : Setting → ℕ → List ℕ → List ℕ → Crossed
host_run setting total bytes ram = host_call (area_rules setting ram) (λ r. run_of setting total r ram) bytes ram

abbrev pub host_image_run : ImageSetting → ℕ → ℕ → List ℕ → List ℕ → Crossed
host_image_run setting p total bytes ram = host_call (image_area_rules setting p ram) (λ r. image_run_of setting p total r ram) bytes ram
