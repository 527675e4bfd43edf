-- Why the text of a program is refused.
use Rattle.std.proofs.Common.{◌≡◌, ◌∙◌, ℕ, List, [], refl, sym, ap, Result, Ok, Err}
use Rattle.prolog_reader.specs.declared.fault.ReadFault.{ReadFault}
use Rattle.prolog_reader.specs.declared.fault.ReadFault.TheVariants as reading
use Rattle.prolog_reader.specs.Answers.{RefusesText}
use Rattle.prolog_terms.specs.Clauses.{Clause}
use Rattle.prolog_reader.specs.Naming.{with_names, BeginNames, text_own}
use Rattle.prolog_reader.proofs.NamingLemmas.{names_none}
use Rattle.prolog_reader.specs.Table.{Table}
use Rattle.clause_normal.specs.declared.fault.NormFault.{NormFault}
use Rattle.clause_normal.specs.declared.fault.NormFault.TheVariants as normal
use Rattle.clause_normal.specs.Faults.{IfFault}
use Rattle.clause_normal.specs.ChoiceNames.{made_texts, program_names}
use Rattle.clause_normal.specs.NormalForm.{Fault as NormalFault, normal_rules, program_of, normal_form}
use Rattle.clause_normal.specs.Rules.{Rule}
use Rattle.cti_top.specs.declared.source.SourceFault.{SourceFault}
use Rattle.cti_top.specs.Programs.{ReadsAs}
use Rattle.cti_top.specs.Programs as programs
use Rattle.cti_top.specs.Faults.{IsProgramFault, read_fault, normal_fault}

-- a fault in reading refuses the text
pub not_read : (bytes : List ℕ) (names : List (List ℕ)) (fault : ReadFault) (r : SourceFault) → r ≡ read_fault fault → BeginNames text_own [] bytes names fault → RefusesText names bytes fault
    → IsProgramFault bytes r
not_read bytes names (reading.Fault kind at) r e b h = rw e (programs.not_read b.all kind b.are (h b.all b.begin) refl)
not_read bytes names reading.Memory r e b h = rw e tt

-- a fault of the normal form adds no names
fault_names : (read : List (List ℕ)) (clauses : List Clause) (f : NormalFault) → normal_form read clauses ≡ Err f → program_names read clauses ≡ read
fault_names read clauses f fails = by_rules (normal_rules read [] 1 clauses) fails
  where
    by_rules : (r : Result (List Rule) NormalFault) → program_of read r ≡ Err f → with_names read (made_texts r) ≡ read
    by_rules (Ok rs) h = cc
    by_rules (Err e) h = names_none read

-- and so does one of the normal form
pub not_normal : (bytes : List ℕ) (read : List (List ℕ)) (clauses : List Clause) (table : Table) (fault : NormFault) (r : SourceFault) → r ≡ normal_fault fault
    → ReadsAs bytes read clauses table → (later : List (List ℕ)) → IfFault fault (λ _. later ≡ read) → IfFault fault (λ f. normal_form later clauses ≡ Err f) → IsProgramFault bytes r
not_normal bytes read clauses table (normal.Fault kind at) r e reads later same h =
    let fails = ap (λ (n : List (List ℕ)). normal_form n clauses) (sym same) ∙ h in
    rw e (programs.not_normal read clauses table kind reads (ap (λ (n : List (List ℕ)). normal_form n clauses) (fault_names read clauses (kind, at) fails) ∙ fails) refl)
not_normal bytes read clauses table normal.Memory r e reads later same h = rw e tt
