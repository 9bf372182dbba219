-- The shortest and the longest form, so that the claims are about something.
use Rattle.std.specs.Prelude.{true, ◌≡◌, length, replicate}
use Rattle.refusal.specs.Refusals.{accepted}
use Rattle.state.specs.Record.{fresh_record}
use Rattle.state.specs.declared.Base.TheVariants.{External}
use Rattle.state.specs.declared.Record.{Record}
use Rattle.short_layout.specs.ShortForm.{short_form}
use Rattle.short_form.specs.ShortStoring.{write_decision, read_record}

-- every register in five groups, SP in two, an offset in four
abbrev pub long_record : Record
long_record = record {
  regs = replicate 8 0xFFFFFFFF;
  sp = 0x10000;
  flags = record { n = true; z = true; c = true; v = true };
  place = 127;
  base = External 0xFFFFFF;
}

pub record Examples : Type 0 where
  pub shortest : short_form fresh_record ≡ replicate 12 0
  pub shortest_written : write_decision fresh_record (replicate 12 0) ≡ accepted
  pub shortest_read : read_record (replicate 12 0) ≡ record { decision = accepted; loaded = fresh_record }
  pub longest : length (short_form long_record) ≡ 49
  pub longest_written : write_decision long_record (replicate 49 0) ≡ accepted
  pub longest_read : read_record (short_form long_record) ≡ record { decision = accepted; loaded = long_record }
