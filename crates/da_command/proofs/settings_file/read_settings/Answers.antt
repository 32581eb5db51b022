use Rattle.std.proofs.Common.{refl, sym, ap, ◌∙◌, subst, arith, Err}
use Rattle.da_base.specs.Words.{Bytes}
use Rattle.da_config.specs.Reading.{IsRead}
use Rattle.da_config.specs.SettingsText.{settings_of}
use Rattle.da_command.proofs.SettingsFileLemmas.{reads_long, reads_fault}
use Rattle.da_command.proofs.settings_file.read_settings.Goals as goal

pub returns-in-Err-Failed : goal.returns-in-Err-Failed
returns-in-Err-Failed g c =
    let cause = rw c.in-Err-Failed.field-0-is at c.in-Err-Failed.ensures.cause in
    record {
      rose = cause.failed refl;
      reads = record {
        held = c.in-Err-Failed.ensures.held;
        past = rw c.in-Err-Failed.field-0-is at c.in-Err-Failed.ensures.past;
        faults = cause.failed refl;
      };
    }

pub returns-in-Err-Long : goal.returns-in-Err-Long
returns-in-Err-Long g c =
    reads_long c.args.path.now _ _ c.long_text.result c.long_text.ensures (rw c.in-Err-Long.field-0-is at c.in-Err-Long.ensures.gives)
    (record {
      held = c.in-Err-Long.ensures.held;
      past = rw c.in-Err-Long.field-0-is at c.in-Err-Long.ensures.past;
      faults = omega (arith, c.in-Err-Long.ensures.cause.later);
    })

pub returns-in-Ok-read : goal.returns-in-Ok-read
returns-in-Ok-read g c = record {
  text = c.in-Ok.text.items;
  is_text = c.in-Ok.ensures.gives.1;
  is_settings = ap settings_of (sym c.deref.ensures.value) ∙ c.in-Ok-read.ensures;
  reads = record { held = c.in-Ok.ensures.held; past = c.in-Ok.ensures.past; faults = omega (arith, c.in-Ok.ensures.cause.later) };
}

pub returns : goal.returns
returns g c =
    let faulty : IsRead (settings_of c.in-Ok.text.items) (Err c.in-Err.fault) = subst (λ (t : Bytes). IsRead (settings_of t) (Err c.in-Err.fault)) c.deref.ensures.value c.in-Err.ensures in
    reads_fault c.args.path.now _ _ c.in-Ok.text.items c.in-Err.fault c.status_of_fault.result c.in-Ok.ensures.gives.1
    (record { held = c.in-Ok.ensures.held; past = c.in-Ok.ensures.past; faults = omega (arith, c.in-Ok.ensures.cause.later) })
    faulty c.status_of_fault.ensures
