-- The lines that the runner prints.
use Rattle.std.specs.Prelude.{ℕ, Bool, true, false, List, [], ◌∷◌, ◌++◌}
use Rattle.arm.specs.declared.Flags.{Flags}
use Rattle.stop.specs.Stops.{direct, by_literal, Reason, budget, service, fault, unlisted, refused}
use Rattle.text.specs.Words.{bytes, space, newline}
use Rattle.text.specs.Digits.{hex, decimal}
use Rattle.refusal_line.specs.RefusalLine.{refused_text}

-- a service, by its low byte
abbrev pub service_text : ℕ → List ℕ
service_text n = bytes "stop service " ++ hex 2 n

-- why the run stopped: a service has its low byte and, for 01-7F, the literal; a refusal has a line of its own kind
unfoldable pub stop_text : Reason → List ℕ
stop_text budget = bytes "stop budget" ++ newline
stop_text (service (direct n)) = service_text n ++ newline
stop_text (service (by_literal n literal)) = service_text n ++ space ++ hex 8 literal ++ newline
stop_text (fault n) = bytes "stop fault " ++ decimal n ++ newline
stop_text unlisted = bytes "stop mark" ++ newline
stop_text (refused n values) = refused_text n values

-- how many steps were counted
unfoldable pub steps_text : ℕ → List ℕ
steps_text steps = bytes "steps " ++ decimal steps ++ newline

-- the place, a halfword number
unfoldable pub place_text : ℕ → List ℕ
place_text place = bytes "place " ++ decimal place ++ newline

-- words of eight hex digits, each behind a space
unfoldable pub words_text : List ℕ → List ℕ
words_text [] = []
words_text (x ∷ xs) = space ++ hex 8 x ++ words_text xs

-- the registers, r0 first
unfoldable pub regs_text : List ℕ → List ℕ
regs_text regs = bytes "regs" ++ words_text regs ++ newline

-- whether a flag is set
unfoldable pub flag_text : Bool → List ℕ
flag_text true = bytes "1"
flag_text false = bytes "0"

-- the flags N, Z, C, V
unfoldable pub flags_text : Flags → List ℕ
flags_text f = bytes "flags " ++ flag_text f.n ++ flag_text f.z ++ flag_text f.c ++ flag_text f.v ++ newline
