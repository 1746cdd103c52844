-- A file in memory as its name and its bytes.
use Rattle.std.specs.Prelude.{string_bytes}
use Rattle.weave_base.specs.declared.mem_files.MemFile.{MemFile}
use Rattle.weave_base.specs.Contents.{File}

abbrev pub file_of : MemFile → File
file_of f = record { name = string_bytes f.name; bytes = f.bytes.items }
