use Rattle.std.proofs.Common.{ℕ, List, [], ◌∷◌, ◌++◌, ◌+◌, ◌<◌, ◌≤◌, length, length-append, get_or, subst, ap, ◌∙◌, sym, arith}
use Rattle.prolog_terms.specs.Symbols.{Seen}
use Rattle.prolog_terms.proofs.VariableLemmas.{variable_there, variable_away, each_pushed}
use Rattle.prolog_terms.proofs.variables.Variables.number.Goals as goal

pub returns-then-at-len-clause-added : goal.returns-then-at-len-clause-added
returns-then-at-len-clause-added c =
    let s = c.args.self.now in
    let within : c.in_ok-place.place.0 < length s.numbers.items = omega (arith, c.if-at-len.true, c.len.ensures, s.numbers.ok.0) in
    let h = variable_there s.names s.numbers.items s.count c.args.name.now c.requires.numbered.paired (sym c.is_anonymous.ensures ∙ c.if-is_anonymous.false) (omega (arith, within, c.in_ok-place.ensures.number)) in
    let seen : List (List ℕ) → Seen = λ ns. record { named = ns; numbers = s.numbers.items; count = s.count } in
    ap seen (c.in_ok-place.ensures.added ∙ h.0) ∙ sym h.1

pub returns-then-at-len-clause-numbered : goal.returns-then-at-len-clause-numbered
returns-then-at-len-clause-numbered c =
    let s = c.args.self.now in
    let within : c.in_ok-place.place.0 < length s.numbers.items = omega (arith, c.if-at-len.true, c.len.ensures, s.numbers.ok.0) in
    let h = variable_there s.names s.numbers.items s.count c.args.name.now c.requires.numbered.paired (sym c.is_anonymous.ensures ∙ c.if-is_anonymous.false) (omega (arith, within, c.in_ok-place.ensures.number)) in
    record { paired = ap (λ (ns : List (List ℕ)). length ns) (c.in_ok-place.ensures.added ∙ h.0) ∙ c.requires.numbered.paired; counted = c.requires.numbered.counted; each = c.requires.numbered.each }

pub returns-clause-added : goal.returns-clause-added
returns-clause-added c =
    let s = c.args.self.now in
    let past : length s.numbers.items ≤ c.in_ok-place.place.0 = omega (arith, c.if-at-len.false, c.len.ensures, s.numbers.ok.0) in
    let h = variable_away s.names s.numbers.items s.count c.args.name.now c.requires.numbered.paired (sym c.is_anonymous.ensures ∙ c.if-is_anonymous.false) (omega (arith, past, c.in_ok-place.ensures.number)) in
    let seen : List (List ℕ) → List ℕ → Seen = λ ns xs. record { named = ns; numbers = xs; count = s.count + 1 } in
    ap (λ ns. seen ns c.push.new.self.items) (c.in_ok-place.ensures.added ∙ h.0) ∙ ap (λ xs. seen (s.names ++ c.args.name.now ∷ []) xs) c.in_ok-push.ensures.items ∙ sym h.1

pub returns-clause-numbered : goal.returns-clause-numbered
returns-clause-numbered c =
    let s = c.args.self.now in
    let past : length s.numbers.items ≤ c.in_ok-place.place.0 = omega (arith, c.if-at-len.false, c.len.ensures, s.numbers.ok.0) in
    let h = variable_away s.names s.numbers.items s.count c.args.name.now c.requires.numbered.paired (sym c.is_anonymous.ensures ∙ c.if-is_anonymous.false) (omega (arith, past, c.in_ok-place.ensures.number)) in
    let names = ap (λ (ns : List (List ℕ)). length ns) (c.in_ok-place.ensures.added ∙ h.0) in
    let numbers = ap (λ (xs : List ℕ). length xs) c.in_ok-push.ensures.items in
    record {
      paired = names ∙ simp length-append (omega (arith, c.requires.numbered.paired, simp length-append at numbers));
      counted = omega (arith, c.requires.numbered.counted, simp length-append at numbers);
      each = λ i d h. subst (λ (xs : List ℕ). get_or xs i d < s.count + 1) (sym c.in_ok-push.ensures.items)
          (each_pushed s.numbers.items s.count i d (λ j k. c.requires.numbered.each j d k) (subst (λ (xs : List ℕ). i < length xs) c.in_ok-push.ensures.items h));
    }

pub returns-then-at-len-clause-within : goal.returns-then-at-len-clause-within
returns-then-at-len-clause-within c =
    let s = c.args.self.now in
    let within : c.in_ok-place.place.0 < length s.numbers.items = omega (arith, c.if-at-len.true, c.len.ensures, s.numbers.ok.0) in
    subst (λ n. n < s.count) (sym c.index.ensures) (c.requires.numbered.each c.in_ok-place.place.0 c.index.result.now within)
