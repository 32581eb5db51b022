use Rattle.std.proofs.Common.{◌≡◌, drop}
use Rattle.da_outside.specs.Files.{file_at, files_of}
use Rattle.da_outside.proofs.files.find.Given as goal

abbrev pub invariant-loop-file : goal.invariant-loop-file
invariant-loop-file l = file_at (files_of (drop l.file-index l.files)) l.path ≡ file_at (files_of l.files) l.path
