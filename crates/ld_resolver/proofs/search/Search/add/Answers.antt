use Rattle.std.proofs.Common.{◌≡◌, ℕ, Bor, Option, None, [], ◌∷◌, ◌++◌, ◌-◌, map, reverse, refl, ap, sym, ◌∙◌, arith, rules}
use Rattle.std.proofs.lemmas.List.{reverse-append}
use Rattle.cti_terms.specs.declared.syntax.Term.{Term}
use Rattle.cti_terms.specs.Resolve.{over, raised}
use Rattle.ld_resolver.specs.declared.choices.Choice.{Choice}
use Rattle.unifier.specs.Store.{made, full}
use Rattle.ld_resolver.specs.Tails.{tail_at}
use Rattle.ld_resolver.specs.Choices.{left}
use Rattle.ld_resolver.specs.Searches.{IsNewest, attempts_at, left_of, untried}
use Rattle.ld_resolver.proofs.ItselfLaws.{walk_fails}
use Rattle.ld_resolver.proofs.SearchLaws.{choice_entered, choice_itself, left_entered, left_itself, ordinary_fits}
use Rattle.ld_resolver.proofs.search.Search.add.Goals.{In_ok-push, in-Ordinary, in-Succeeds}
use Rattle.ld_resolver.proofs.search.Search.add.Goals as goal

-- the choice that is pushed with this number and this value
module _ (c : In_ok-push) (n : ℕ) (v : Option (Bor Term)) where
  abbrev pushed : Choice
  pushed = record {
    atom = c.args.start.atom;
    base = c.args.start.base;
    rest = c.args.start.rest;
    fresh = c.args.fresh;
    next = n;
    value = v;
    mark = c.len.result;
    rests = c.len-2.result;
    depth = c.args.depth;
  }

  is_newest : IsNewest c.args.self.now pushed
  is_newest = let h = c.requires.newest in record { mark = c.len.ensures.count; rest = h.rest; rests = c.len-2.ensures; free = h.free; below = h.below }

  last_pushed : c.match-branch-2.next ≡ (n, v) → reverse c.push.new.self.items ≡ pushed ∷ reverse c.args.self.now.choices.items
  last_pushed e = ap reverse (rw e at c.in_ok-push.ensures.items) ∙ reverse-append c.args.self.now.choices.items (pushed ∷ [])

pub returns-in-Fails-clause-entered : goal.returns-in-Fails-clause-entered
returns-in-Fails-clause-entered c =
    let x = c.args.self.now in
    let choice = untried x c.args.start c.args.fresh c.args.depth in
    let fails = rw c.in-Fails.is at c.in_ok-judge.ensures.judged in (
      λ q bs. refl,
      λ q n. ap (λ vs. vs ++ left_of q n x)
          (walk_fails x.program.now c.in_ok-judge.ensures.sound q (n - choice.depth) (made x.bindings) choice.depth x.bindings choice.fresh (raised choice.base choice.atom.now) (tail_at x.tails choice.rest) fails.0.0 fails.0.1 fails.2),
      fails.1,
    )

pub returns-in-Wide-clause-entered : goal.returns-in-Wide-clause-entered
returns-in-Wide-clause-entered c = (λ q bs. refl, rw c.in-Wide.is at c.in_ok-judge.ensures.judged)

pub returns : goal.returns
returns c = elim c.match-branch-2.branch [
  | in-Ordinary w ↦
      let new = pushed c w.next_match-next.result None in
      let items = last_pushed c w.next_match-next.result None w.next-is in
      let newest = is_newest c w.next_match-next.result None in
      let plain = rw w.in-Ordinary.is at c.in_ok-judge.ensures.judged in
      let first = w.next_match-next.ensures c.args.fresh 1 (w.first-first.ensures c.args.self.now.program.now c.requires.chain) in
      let x = c.args.self.now in
      record {
        search = rw items (choice_entered c.requires.search newest first plain);
        program = search rules;
        bindings = search rules;
        entered = (
          λ q bs. refl,
          λ q n. left_entered c.requires.search newest first plain q n ∙ ap (left x.program.now q n x.bindings x.tails) (sym items),
          ordinary_fits x.program.now (over (full x.bindings) (raised new.base new.atom.now)) (map (over (full x.bindings)) (tail_at x.tails new.rest)) plain,
        );
        attempts = omega (arith, ap (attempts_at x.program.now) items, first.from);
        depths = λ d old here. rw items (here, old);
      }
  | in-Succeeds w ↦
      let items = last_pushed c 0 w.in-Succeeds.value w.next-is in
      let newest = is_newest c 0 w.in-Succeeds.value in
      let goes = rw w.in-Succeeds.is at c.in_ok-judge.ensures.judged in
      let x = c.args.self.now in
      record {
        search = rw items (choice_itself c.requires.search newest refl (record { built = goes.0; passes = goes.2; integer = goes.3 }));
        program = search rules;
        bindings = search rules;
        entered = (λ q bs. refl, λ q n. left_itself c.requires.search newest refl q n ∙ ap (left x.program.now q n x.bindings x.tails) (sym items), goes.1);
        attempts = omega (arith, ap (attempts_at x.program.now) items);
        depths = λ d old here. rw items (here, old);
      }
]
