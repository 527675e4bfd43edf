use Rattle.std.proofs.Common.{◌≡◌, ◌∙◌, ℕ, List, Option, length, map, ap, sym, subst, arith}
use Rattle.kept_clauses.specs.KeptLists.{AreKeptList, kept_from}
use Rattle.prolog_terms.specs.Terms.{clause_of}
use Rattle.edit_texts.proofs.Clauses.{all_list}
use Rattle.edit_texts.proofs.Lists.{map_length}
use Rattle.edit_texts.proofs.playing.Playing.catch_up.Goals as goal

pub returns-in_ok-self-clause-under_way : goal.returns-in_ok-self-clause-under_way
returns-in_ok-self-clause-under_way c =
    let xs = c.args.self.now.clauses.items in
    let cs = map clause_of xs in
    let h = c.in_ok-follow.ensures.program in
    let many : length cs ≡ c.len-self.result = omega (arith, c.len-self.ensures, map_length clause_of xs) in
    let numbers : kept_from 1 (length cs) ≡ c.in_ok-self.field-0.items = ap (kept_from 1) many ∙ sym c.in_ok-self.ensures in
    record {
      fit = h.fit;
      definite = h.definite;
      operations = h.operations;
      before = record {
        clauses = cs;
        many = many;
        definite = h.definite;
        is = h.program;
        named = h.named;
        kept = subst (λ (ks : List (Option ℕ)). AreKeptList cs cs ks) numbers (all_list cs);
      };
      current = λ e. h.program;
    }
