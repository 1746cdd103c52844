use Rattle.std.proofs.Common.{sym, ap, ◌∙◌, Ok}
use Rattle.typing_scopes.proofs.Entries.{entry_local, entry_file, entry_none}
use Rattle.typing_scopes.proofs.known.Known.entry.Goals as goal

pub returns-in-Some : goal.returns-in-Some
returns-in-Some c =
    entry_local c.args.self.now c.args.name.now c.bytes-bytes.result.now c.as_slice.result.now c.bytes-bytes.ensures c.as_slice.ensures.value c.in-Some.ensures ∙ sym (ap Ok c.local_found.ensures)

pub returns-in-Some-found_in_file : goal.returns-in-Some-found_in_file
returns-in-Some-found_in_file c =
    entry_file c.args.self.now c.args.name.now c.bytes-bytes.result.now c.as_slice.result.now c.bytes-bytes.ensures c.as_slice.ensures.value c.in_default.ensures c.in-Some-found_in_file.ensures

pub returns-in-None : goal.returns-in-None
returns-in-None c = λ other.
    entry_none c.args.self.now c.args.name.now c.bytes-bytes.result.now c.as_slice.result.now c.bytes-bytes.ensures c.as_slice.ensures.value c.in_default.ensures c.in-None.ensures
