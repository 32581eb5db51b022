use Rattle.std.proofs.Common.{sym}
use Rattle.std.proofs.lemmas.Str.{is_utf8-from_IsUtf8}
use Rattle.da_config.proofs.Utf8.{is_utf8-not}
use Rattle.da_config.proofs.document.document.Goals as goal

pub returns-in_default : goal.returns-in_default
returns-in_default c = rw (is_utf8-not c.args.text.now c.in_default.ensures.cases.0)

pub returns-in-Ok-table_from_str : goal.returns-in-Ok-table_from_str
returns-in-Ok-table_from_str c =
    let read = c.in-Ok.ensures.cases in
    rw (is_utf8-from_IsUtf8 c.args.text.now read.1, ← read.0) (sym c.in-Ok-table_from_str.ensures.ok)
