use Rattle.std.proofs.Common.{◌≡◌, ◌^◌, ◌<◌, ◌≤◌, length, drop}
use Rattle.std.specs.Prelude.{option_and_then}
use Rattle.da_base.specs.Words.{pieces}
use Rattle.da_nets.specs.Addresses.{read_each}
use Rattle.da_nets.specs.Forms.{base, most, part, separator, few}
use Rattle.da_nets.proofs.Reading.{more_parts}
use Rattle.da_nets.proofs.parts.read_parts.Given as goal

abbrev pub invariant-loop-piece : goal.invariant-loop-piece
invariant-loop-piece l = record {
  value : option_and_then (more_parts l.form l.value l.count) (read_each (part l.form) (drop (length l.yielded) (pieces (separator l.form) l.text))) ≡ option_and_then (few l.form) (read_each (part l.form) (pieces (separator l.form) l.text));
  small : l.value < base l.form ^ l.count;
  count : l.count ≤ most l.form;
}
