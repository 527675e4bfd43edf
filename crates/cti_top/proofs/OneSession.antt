-- A text of edits tells one thing or is refused, for one fault.
use Rattle.std.proofs.Common.{◌≡◌, ℕ, ◌≤◌, List, [], length, Ok, Err, ◌⊎◌, inl, inr, refl, sym, ap, ◌∙◌}
use Rattle.edit_texts.specs.Edits.{Outcome, Refusal, Told, outcome}
use Rattle.edit_texts.proofs.PlacedEdits.{outcome_placed}
use Rattle.prolog_terms.specs.Clauses.{Clause}
use Rattle.prolog_reader.specs.Naming.{AreNamesOf, text_own}
use Rattle.prolog_reader.specs.Reading.{Answer, Fault, IsTextAnswer, too_long, by_clauses}
use Rattle.prolog_reader.specs.Table.{Table}
use Rattle.prolog_reader.proofs.PlaceLemmas.{text_placed}
use Rattle.prolog_reader.proofs.SomeAnswer.{text_answered}
use Rattle.prolog_reader.proofs.TextNames.{names_of}
use Rattle.cti_top.specs.Programs.{ReadsAs}
use Rattle.cti_top.specs.Refusal.{read_number}
use Rattle.cti_top.specs.Sessions.{IsRefusedSession, IsToldBy, edit_number, not_done, not_read, session_names}
use Rattle.cti_top.proofs.OneAnswer.{answers_once, apart, err_is, forms_once, ok_is}

module _ (bytes : List ℕ) where
  -- what the edits come to
  outcomes_once : (names other : List (List ℕ)) (cs ds : List Clause) (t u : Table) → ReadsAs bytes names cs t → ReadsAs bytes other ds u
      → outcome (session_names names) [] cs ≡ outcome (session_names other) [] ds
  outcomes_once names other cs ds t u r s =
      let same = forms_once bytes names other cs ds t u r s in
      ap (λ (ns : List (List ℕ)). outcome (session_names ns) [] cs) same.0 ∙ ap (outcome (session_names other) []) same.1

  told_done : {names : List (List ℕ)} {told : List Told} (a : IsToldBy bytes names told) → outcome (session_names a.read) [] a.clauses ≡ Ok told
  told_done a = ap (λ (ns : List (List ℕ)). outcome ns [] a.clauses) (sym a.named) ∙ a.done

  pub told_once : (names other : List (List ℕ)) (told told' : List Told) → IsToldBy bytes names told → IsToldBy bytes other told' → (names ≡ other) × (told ≡ told')
  told_once names other told told' a b =
      let same = forms_once bytes a.read b.read a.clauses b.clauses a.table b.table a.reads b.reads in
      let done = sym (told_done a) ∙ outcomes_once a.read b.read a.clauses b.clauses a.table b.table a.reads b.reads ∙ told_done b in
      (a.named ∙ ap session_names same.0 ∙ sym b.named, ok_is told told' done)

  pub told_or_refused : (names : List (List ℕ)) (told : List Told) (kind at : ℕ) → IsToldBy bytes names told → IsRefusedSession bytes kind at → ⊥
  told_or_refused names told kind at a (not_read other k named h is) =
      apart (a.clauses, a.table) (k, at) (answers_once bytes a.read other (Ok (a.clauses, a.table)) (Err (k, at)) a.reads.named named a.reads.reads h).1
  told_or_refused names told kind at a (not_done other cs u k r h is) =
      apart told (k, at) (sym (told_done a) ∙ outcomes_once a.read other a.clauses cs a.table u a.reads r ∙ h)

  pub session_refused_once : (kind at kind' at' : ℕ) → IsRefusedSession bytes kind at → IsRefusedSession bytes kind' at' → (kind ≡ kind') × (at ≡ at')
  session_refused_once kind at kind' at' (not_read names k named h is) (not_read other j named' g is') =
      let same = err_is (k, at) (j, at') (answers_once bytes names other (Err (k, at)) (Err (j, at')) named named' h g).1 in
      (is ∙ ap (λ (f : Fault). read_number f.0) same ∙ sym is', ap (λ (f : Fault). f.1) same)
  session_refused_once kind at kind' at' (not_read names k named h is) (not_done other cs t j r g is') =
      absurd (apart (cs, t) (k, at) (answers_once bytes other names (Ok (cs, t)) (Err (k, at)) r.named named r.reads h).1)
  session_refused_once kind at kind' at' (not_done other cs t j r g is') (not_read names k named h is) =
      absurd (apart (cs, t) (k, at') (answers_once bytes other names (Ok (cs, t)) (Err (k, at')) r.named named r.reads h).1)
  session_refused_once kind at kind' at' (not_done names cs t k r h is) (not_done other ds u j s g is') =
      let fault = err_is (k, at) (j, at') (sym h ∙ outcomes_once names other cs ds t u r s ∙ g) in
      (is ∙ ap (λ (f : Refusal). edit_number f.0) fault ∙ sym is', ap (λ (f : Refusal). f.1) fault)

  -- each text tells something or is refused
  pub some_session : ((names : List (List ℕ)) × (told : List Told) × IsToldBy bytes names told) ⊎ ((kind : ℕ) × (at : ℕ) × IsRefusedSession bytes kind at)
  some_session = let n = names_of text_own [] bytes in let a = text_answered n.0 bytes in by_answer n.0 n.1 a.0 a.1
    where
      by_outcome : (read : List (List ℕ)) (cs : List Clause) (t : Table) → ReadsAs bytes read cs t → (r : Outcome) → outcome (session_names read) [] cs ≡ r
          → ((names : List (List ℕ)) × (told : List Told) × IsToldBy bytes names told) ⊎ ((kind : ℕ) × (at : ℕ) × IsRefusedSession bytes kind at)
      by_outcome read cs t reads (Ok told) e =
          inl (session_names read, told, record { read = read; clauses = cs; table = t; reads = reads; named = refl; done = e })
      by_outcome read cs t reads (Err f) e = inr (edit_number f.0, f.1, not_done read cs t f.0 reads e refl)

      by_answer : (read : List (List ℕ)) → AreNamesOf text_own [] bytes read → (a : Answer) → IsTextAnswer read bytes a
          → ((names : List (List ℕ)) × (told : List Told) × IsToldBy bytes names told) ⊎ ((kind : ℕ) × (at : ℕ) × IsRefusedSession bytes kind at)
      by_answer read named (Ok r) is = by_outcome read r.0 r.1 (record { named = named; reads = is }) (outcome (session_names read) [] r.0) refl
      by_answer read named (Err f) is = inr (read_number f.0, f.1, not_read read f.0 named is refl)

  -- what is done is read, and short
  pub told_short : (names : List (List ℕ)) (told : List Told) → IsToldBy bytes names told → length bytes ≤ 1048576
  told_short names told a = of_answer a.reads.reads
    where
      of_answer : {names : List (List ℕ)} {cs : List Clause} {t : Table} → IsTextAnswer names bytes (Ok (cs, t)) → length bytes ≤ 1048576
      of_answer (too_long h e) = absurd (apart _ _ e)
      of_answer (by_clauses ts f short lexes answers) = short

  -- a refusal's place is one of the text
  pub session_refused_placed : (kind at : ℕ) → IsRefusedSession bytes kind at → at ≤ length bytes
  session_refused_placed kind at (not_read names k named h is) = text_placed names bytes (Err (k, at)) h
  session_refused_placed kind at (not_done read cs t k r h is) =
      outcome_placed (length bytes) (session_names read) [] cs (k, at) (text_placed read bytes (Ok (cs, t)) r.reads) h
