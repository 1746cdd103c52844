use Rattle.std.proofs.Common.{◌≡◌, map, drop}
use Rattle.weave_base.specs.Contents.{bytes_of}
use Rattle.weave_base.specs.MemFile.{file_of}
use Rattle.weave_base.proofs.mem_files.find.Given as goal

abbrev pub invariant-loop-file : goal.invariant-loop-file
invariant-loop-file l = bytes_of (map file_of (drop l.file-index l.files)) l.name ≡ bytes_of (map file_of l.files) l.name
