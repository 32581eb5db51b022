-- The read of a settings file, by what was got and by the status; and that a good file gives its settings.
use Rattle.std.proofs.Common.{◌≡◌, ◌<◌, length, List, Some, Err, sym, ap, ◌∙◌, subst, inr}
use Rattle.std.specs.Prelude.{IfSome, Ok}
use Rattle.std.proofs.lemmas.Bool.{lt-ltb}
use Rattle.da_base.specs.Words.{Bytes}
use Rattle.da_outside.specs.FileReads.{ReadsFile}
use Rattle.da_outside.specs.Files.{File, FilesState, bytes_at}
use Rattle.da_outside.specs.declared.faults.Got.TheVariants.{Given, TooLong}
use Rattle.da_config.specs.declared.fault.Fault.{Fault}
use Rattle.da_config.specs.declared.fault.FaultKind.TheVariants.{Range}
use Rattle.da_config.specs.declared.fault.ConfigFault.{ConfigFault}
use Rattle.da_config.specs.declared.fault.ConfigFault.TheVariants.{Bad, NoMemory as TextNoMemory}
use Rattle.da_config.specs.Reading.{IsRead}
use Rattle.da_config.specs.SettingsText.{settings_of, fault_at_all}
use Rattle.da_settings.specs.declared.settings.Settings.{Settings}
use Rattle.da_command.specs.declared.status.Status.{Status}
use Rattle.da_command.specs.declared.status.Status.TheVariants.{Done, Usage, BadScript, LongScript, BadInput, NoSettings, NoListen, NoMemory, ReadFault, WriteFault, Full, BadSettings}
use Rattle.da_command.specs.SettingsFile.{HoldsFault, HoldsSettings, ReadsSettings, IsTooLong, fault_status}
use Rattle.da_command.proofs.Along.{IfSome-map, ok_same}

long_settings : (text : Bytes) (fault : Fault) → 1048576 < length text → fault ≡ fault_at_all Range → settings_of text ≡ Err fault
unfolding settings_of
long_settings text fault long is = rw (lt-ltb 1048576 (length text) long) (ap (λ (f : Fault). Err f) (sym is))

-- a file that is too long
pub reads_long : (path : Bytes) (before after : FilesState) (status : Status)
    → IsTooLong status → IfSome before.held (λ files. 1048576 < length (bytes_at files path)) → ReadsFile path before after TooLong
    → ReadsSettings path before after (Err status)
reads_long path before after (BadSettings fault) is long reads =
    record {
      got = TooLong;
      gives = is;
      is_fault =
          IfSome-map before.held (λ files. 1048576 < length (bytes_at files path)) (λ files. settings_of (bytes_at files path) ≡ Err fault)
          (λ files more. long_settings (bytes_at files path) fault more is) long;
      reads = reads;
    }
reads_long path before after NoMemory is long reads = inr (TooLong, reads)
reads_long path before after Done is long reads = absurd is
reads_long path before after Usage is long reads = absurd is
reads_long path before after (BadScript line) is long reads = absurd is
reads_long path before after LongScript is long reads = absurd is
reads_long path before after BadInput is long reads = absurd is
reads_long path before after NoSettings is long reads = absurd is
reads_long path before after NoListen is long reads = absurd is
reads_long path before after ReadFault is long reads = absurd is
reads_long path before after WriteFault is long reads = absurd is
reads_long path before after Full is long reads = absurd is

-- a text that gave no settings
pub reads_fault : (path : Bytes) (before after : FilesState) (text : Bytes) (fault : ConfigFault) (status : Status)
    → IfSome before.held (λ files. text ≡ bytes_at files path) → ReadsFile path before after (Given text) → IsRead (settings_of text) (Err fault)
    → status ≡ fault_status fault → ReadsSettings path before after (Err status)
reads_fault path before after text (Bad fault) status is reads bad same =
    subst (λ (s : Status). ReadsSettings path before after (Err s)) (sym same)
    (record {
      got = Given text;
      gives = bad;
      is_fault =
          IfSome-map before.held (λ files. text ≡ bytes_at files path) (λ files. settings_of (bytes_at files path) ≡ Err fault)
          (λ files e. ap settings_of (sym e) ∙ bad) is;
      reads = reads;
    })
reads_fault path before after text TextNoMemory status is reads bad same =
    subst (λ (s : Status). ReadsSettings path before after (Err s)) (sym same) (inr (Given text, reads))

-- ---- a good file

module _ (path : Bytes) (before after : FilesState) (files : List File) (settings : Settings) (held : before.held ≡ Some files) (is : settings_of (bytes_at files path) ≡ Ok settings) where
  -- it has no fault
  pub no_fault : (fault : Fault) → HoldsFault path before after fault → ⊥
  no_fault fault how =
      let bad = subst (λ h. IfSome h (λ files. settings_of (bytes_at files path) ≡ Err fault)) held how.is_fault in
      let clash = sym is ∙ bad in
      cc

  -- and it gives these settings
  pub same_settings : (others : Settings) → HoldsSettings path before after others → others ≡ settings
  same_settings others how =
      let text : how.text ≡ bytes_at files path = subst (λ h. IfSome h (λ files. how.text ≡ bytes_at files path)) held how.is_text in
      ok_same others settings (sym how.is_settings ∙ ap settings_of text ∙ is)
