-- One turn of the program over an input whose bytes are known.
use Rattle.std.specs.Prelude.{Bool, true, false, ◌<◌, ◌≤◌, List, ℕ, length, take, drop, Some}
use Rattle.std.specs.declared.option.Option.{Option}
use Rattle.std.specs.Io.KnownBytes.{Keeps, Appends}
use Rattle.record.specs.Record.{record_length}
use Rattle.answer_head.specs.Head.{answer_tail}
use Rattle.answer_laws.specs.Program.{buffer, head_bytes, whole_step}

-- whether there is more to answer after xs's first record; what is left of the input, and what the output held and holds
abbrev pub IsTurn : List ℕ → Option (List ℕ) → Option (List ℕ) → Option (List ℕ) → Bool → Type 0
IsTurn xs left old new true =
    (record_length ≤ length xs) × Keeps (Some (drop record_length xs)) left × Appends old new (whole_step (take record_length xs))
IsTurn xs left old new false = (length xs < record_length) × Appends old new (head_bytes (answer_tail (length xs) buffer))
