use Rattle.std.proofs.Common.{◌≡◌, ◌∙◌, ◌++◌, ◌∷◌, [], suc, List, length, ap, slice_set, refl}
use Rattle.size_chains.specs.declared.latest.Latest.{Latest}
use Rattle.size_chains.proofs.state.State.accept.Goals as goal

-- how many there are with one more
one_more : {X : Type 0} (x : X) (xs ys : List X) → ys ≡ xs ++ x ∷ [] → length ys ≡ suc (length xs)
one_more {X} x xs ys e = ap length e ∙ go xs
  where
    go : (xs : List X) → length (xs ++ x ∷ []) ≡ suc (length xs)
    go [] = refl
    go (y ∷ xs) = ap suc (go xs)

pub returns-clause-marked : goal.returns-clause-marked
returns-clause-marked g c =
    let old = c.args.self.now in
    let count : c.len.result ≡ suc (length old.steps) = c.len.ensures ∙ one_more _ c.replace.new.self.steps c.push.new.self c.in_ok-push.ensures.ok ∙ ap (λ n. suc n) (ap length c.in_ok-changed.ensures.steps) in
    record {
      same = λ e. c.note.ensures.same e ∙ ap (λ (l : Latest). l.changes.items) c.in_ok-changed.ensures.latest;
      set = λ e. c.note.ensures.set e ∙ ap (λ (l : Latest). slice_set l.changes.items c.args.pred.0 c.len.result) c.in_ok-changed.ensures.latest ∙ ap (slice_set old.latest.changes.items c.args.pred.0) count;
    }
