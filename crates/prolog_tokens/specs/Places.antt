-- To believe, for reading.
-- Lengths and places of faults, counted from the front of some bytes.
use Rattle.std.specs.Prelude.{ℕ, ◌+◌, Result, Ok, Err}
use Rattle.prolog_tokens.specs.declared.fault.LexKind.{LexKind}
use Rattle.prolog_tokens.specs.declared.fault.LexFault.{LexFault}

-- the fault of a kind at a place
abbrev pub fault_at : LexKind → ℕ → LexFault
fault_at kind at = record { kind = kind; at = at }

-- the fault, that many bytes further on
abbrev pub moved : ℕ → LexFault → LexFault
moved n fault = fault_at fault.kind (n + fault.at)

-- a length or a fault, where that many bytes stand in front
abbrev pub further : ℕ → Result ℕ LexFault → Result ℕ LexFault
further n (Ok m) = Ok (n + m)
further n (Err fault) = Err (moved n fault)
