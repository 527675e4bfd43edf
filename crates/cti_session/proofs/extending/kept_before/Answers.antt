use Rattle.std.proofs.Common.{◌≡◌, ◌∙◌, ◌++◌, ◌∷◌, [], ℕ, List, Option, None, length, replicate, inr, ap, arith, subst, sym}
use Rattle.kept_clauses.specs.KeptLists.{AreKeptList, IsIncreasing, IsOnto, kept_from}
use Rattle.edit_texts.proofs.Clauses.{all_list}
use Rattle.cti_session.proofs.ExtendLemmas.{all_more, from_increasing, from_onto, increasing_push, nothing, onto_push, replicate_push}
use Rattle.edit_texts.proofs.PlayLemmas.{append_none}
use Rattle.cti_session.proofs.extending.kept_before.Goals as goal

pub loop-init : goal.loop-init
loop-init c =
    let is = c.in_ok-kept.ensures in
    record {
      order = subst IsIncreasing (sym is) (from_increasing c.args.count);
      onto = subst (IsOnto c.args.count) (sym is) (from_onto c.args.count);
      is = is ∙ sym (append_none (kept_from 1 c.args.count));
    }

pub loop-preserved : goal.loop-preserved
loop-preserved c =
    let i = c.loop.invariant in
    let items = c.in_ok-push.ensures.items in
    record {
      order = subst IsIncreasing (sym items) (increasing_push c.loop.kept.items i.order);
      onto = subst (IsOnto c.args.count) (sym items) (onto_push c.args.count c.loop.kept.items i.onto);
      is = items ∙ ap (λ (ks : List (Option ℕ)). ks ++ None ∷ []) i.is ∙ replicate_push (kept_from 1 c.args.count) c.loop.counter;
    }

pub returns-clause-one : goal.returns-clause-one
returns-clause-one c = record { order = c.loop.invariant.order; all = inr c.loop.invariant.onto }

pub returns-clause-kept : goal.returns-clause-kept
returns-clause-kept c = λ cs ds m n.
    let i = c.loop.invariant in
    let whole = all_more cs cs ds (kept_from 1 (length cs)) (all_list cs) in
    let same : kept_from 1 (length cs) ++ replicate (length ds) nothing ≡ c.loop.kept.items =
    ap (λ (k : ℕ). kept_from 1 k ++ replicate (length ds) nothing) m ∙ ap (λ (k : ℕ). kept_from 1 c.args.count ++ replicate k nothing) (omega (arith, n, c.loop-test.false, c.loop.auto)) ∙ sym i.is in
    subst (λ (ks : List (Option ℕ)). AreKeptList cs (cs ++ ds) ks) same whole
