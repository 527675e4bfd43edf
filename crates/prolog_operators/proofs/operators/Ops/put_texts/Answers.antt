use Rattle.std.proofs.Common.{◌≡◌, ◌+◌, ◌++◌, ◌∷◌, [], ℕ, List, length, map, take, refl, sym, ap, ◌∙◌, arith, subst, take_all, Bor}
use Rattle.std.proofs.lemmas.List.{take_more, map-append}
use Rattle.cti_terms.specs.Numbers.{number_of}
use Rattle.prolog_operators.specs.Names.{Extends}
use Rattle.prolog_operators.specs.Meanings.{table_of}
use Rattle.prolog_operators.specs.Table.{Table, with_operator, with_texts}
use Rattle.prolog_operators.proofs.NameLemmas.{number_kept, extends_self, extends_with_text, extends_trans, length-with_text}
use Rattle.prolog_operators.specs.Texts.{with_names}
use Rattle.prolog_operators.proofs.TextsLemmas.{names_none, names_one, names_then}
use Rattle.prolog_operators.proofs.TableLemmas.{with_texts_push}
use Rattle.prolog_operators.proofs.operators.Ops.put_texts.Goals as goal

pub texts-init : goal.texts-init
texts-init c = record {
  set = λ later ext. refl;
  added = sym (names_none c.args.names.now);
  kept = extends_self c.args.names.now;
  few = omega arith;
}

pub texts-preserved : goal.texts-preserved
texts-preserved c =
    let none : Bor (List ℕ) = record { ref_ptr = (0, 0); now = [] } in
    let text = c.as_bytes.result.now in
    let one : map {A = Bor (List ℕ)} {B = List ℕ} (λ t. t.now) (take (c.texts.text-index + 1) c.args.texts.now)
    ≡ map {A = Bor (List ℕ)} {B = List ℕ} (λ t. t.now) (take c.texts.text-index c.args.texts.now) ++ text ∷ [] =
    ap (map {A = Bor (List ℕ)} {B = List ℕ} (λ t. t.now)) (take_more c.args.texts.now c.texts.text-index none (omega arith)) ∙ map-append (λ (t : Bor (List ℕ)). t.now) (take c.texts.text-index c.args.texts.now) _
    ∙ ap (λ (x : List ℕ). map {A = Bor (List ℕ)} {B = List ℕ} (λ t. t.now) (take c.texts.text-index c.args.texts.now) ++ x ∷ []) (sym c.as_bytes.ensures.value) in
    let added = c.in_ok-name.ensures.added in
    let more = extends_with_text c.texts.names text in
    let grown : Extends c.texts.names c.intern.new.self = subst (λ (ns : List (List ℕ)). Extends c.texts.names ns) (sym added) more in
    record {
      set = λ later ext.
          let number : number_of later text ≡ c.in_ok-name.name.0 = number_kept c.texts.names text later (subst (λ (ns : List (List ℕ)). Extends ns later) added ext) ∙ sym c.in_ok-name.ensures.number in
          let prior = c.texts.invariant.set later (extends_trans c.texts.names c.intern.new.self later grown ext) in
          c.in_ok-put.ensures.ok ∙ ap (λ (t : Table). with_operator t c.args.priority c.args.kind c.in_ok-name.name.0) prior
          ∙ ap (λ n. with_operator (with_texts later (table_of c.args.self.now) c.args.priority c.args.kind (map {A = Bor (List ℕ)} {B = List ℕ} (λ t. t.now) (take c.texts.text-index c.args.texts.now))) c.args.priority c.args.kind n) (sym number)
          ∙ sym (with_texts_push later (table_of c.args.self.now) c.args.priority c.args.kind (map {A = Bor (List ℕ)} {B = List ℕ} (λ t. t.now) (take c.texts.text-index c.args.texts.now)) text)
          ∙ ap (with_texts later (table_of c.args.self.now) c.args.priority c.args.kind) (sym one);
      added =
          names_then c.args.names.now c.texts.names c.intern.new.self (map {A = Bor (List ℕ)} {B = List ℕ} (λ t. t.now) (take c.texts.text-index c.args.texts.now)) (text ∷ []) c.texts.invariant.added
          (added ∙ sym (names_one c.texts.names text)) ∙ ap (with_names c.args.names.now) (sym one);
      kept = extends_trans c.args.names.now c.texts.names c.intern.new.self c.texts.invariant.kept grown;
      few = omega (arith, c.texts.invariant.few, ap (λ (ns : List (List ℕ)). length ns) added, length-with_text c.texts.names text);
    }

pub returns-clause-ok : goal.returns-clause-ok
returns-clause-ok c = λ later ext.
    let whole : take c.texts.text-index c.args.texts.now ≡ c.args.texts.now = take_all c.texts.text-index c.args.texts.now (omega arith) in
    c.texts.invariant.set later ext ∙ ap (λ ts. with_texts later (table_of c.args.self.now) c.args.priority c.args.kind (map (λ (t : Bor (List ℕ)). t.now) ts)) whole

pub returns-clause-added : goal.returns-clause-added
returns-clause-added c =
    let whole : take c.texts.text-index c.args.texts.now ≡ c.args.texts.now = take_all c.texts.text-index c.args.texts.now (omega arith) in
    c.texts.invariant.added ∙ ap (λ ts. with_names c.args.names.now (map (λ (t : Bor (List ℕ)). t.now) ts)) whole
