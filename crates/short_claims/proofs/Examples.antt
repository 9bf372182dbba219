-- The examples hold.
use mathlib.Core.Path.{refl}
use Rattle.leb128.specs.Leb128.{groups_of, leb128, number_in, read_number}
use Rattle.short_layout.specs.ShortForm.{each_field, numbers_for, values_for, field_bytes, bytes_for, short_bytes, short_form, field_in, numbers_behind, numbers_in}
use Rattle.short_claims.specs.Examples.{Examples}

pub examples : Examples
unfolding groups_of leb128 number_in read_number each_field numbers_for values_for field_bytes bytes_for short_bytes short_form field_in numbers_behind numbers_in
examples = record {
  shortest = refl;
  shortest_written = refl;
  shortest_read = refl;
  longest = refl;
  longest_written = refl;
  longest_read = refl;
}
