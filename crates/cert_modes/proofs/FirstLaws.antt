-- What the marks of all predicates say of the first one whose modes do not hold.
use Rattle.termination_model.proofs.Lists.{by_places, from_places}
use Rattle.std.proofs.Common.{◌≡◌, ◌↔◌, ℕ, ◌+◌, ◌<◌, Bool, IsTrue, List, length, slice_get, Option, None, Some, IfSome, refl, sym, subst, ◌∙◌, arith}
use Rattle.call_components.specs.Partition.{Partition}
use Rattle.cti_terms.specs.Listing.{Listing}
use Rattle.cti_terms.specs.Tree.{Tree}
use Rattle.cti_terms.specs.declared.clauses.Clause.{Clause}
use Rattle.termination_model.specs.grounds.Grounds.{IsClosedUnder}
use Rattle.termination_model.specs.sizes.Rows.{Covers}
use Rattle.cert_structure.specs.declared.parts.Parts.{Parts}
use Rattle.cert_modes.specs.Failing.{Admits, Closes, FirstReason, IsFirstPred, KeepsRule, OfPred, PredHolds, broken_rule, open_rows, refused_mode}
use Rattle.cert_modes.specs.Marks.{IsFirstMark, MarkTells, mark_at}
use Rattle.cert_modes.specs.Modes as modes
use Rattle.cert_modes.specs.Modes.{ModesHold}
use Rattle.cert_modes.specs.declared.fault.ModeFault.{ModeFault}
use Rattle.cert_modes.specs.declared.fault.ModeReason.{ModeReason}
use Rattle.cert_modes.specs.declared.fault.ModeReason.TheVariants as reason
use Rattle.cert_modes.proofs.MarkLaws.{MarkSays, mark_within}

module _ (truth : (ℕ → Bool) → Tree → Bool) (p : Listing) (comps : Partition) (parts : Parts) where
  -- the two tests of a predicate's preconditions
  abbrev pub Covered : ℕ → Type 0
  Covered q = (m : ℕ) (row : List Bool) → IsTrue (modes.precondition p parts m q row) → Covers (modes.coefficients_of parts.levels m q) row

  abbrev pub Ruled : ℕ → Type 0
  Ruled q = (m : ℕ) → OfPred p q (KeepsRule truth p comps parts m)

  pub tells : (q : ℕ) (m : Option ModeReason) → MarkSays (Closes truth p comps parts q) (Covered q × Ruled q) (Admits truth p comps parts q) m → MarkTells truth p comps parts q m
  tells q None says = record { closed = says.0; keeps = record { covered = says.1.0; rule = says.1.1 }; modes = says.2 }
  tells q (Some reason.Ground) says = open_rows says
  tells q (Some reason.Precondition) says = broken_rule says.0 (λ k. says.1 (k.covered, k.rule))
  tells q (Some reason.Mode) says = refused_mode says.0 (record { covered = says.1.0; rule = says.1.1 }) says.2

  -- no mark where all holds
  none_where : (q : ℕ) (m : Option ModeReason) → MarkTells truth p comps parts q m → PredHolds truth p comps parts q → m ≡ None
  none_where q None told holds = refl
  none_where q (Some reason.Ground) (open_rows never) holds = absurd (never holds.closed)
  none_where q (Some reason.Precondition) (broken_rule c never) holds = absurd (never holds.keeps)
  none_where q (Some reason.Mode) (refused_mode c k never) holds = absurd (never holds.modes)

  module _ (marks : List (Option ModeReason)) (told : (q : ℕ) → MarkTells truth p comps parts q (mark_at marks q)) where
    pub all_hold : ((q : ℕ) → mark_at marks q ≡ None) ↔ ModesHold truth p comps parts
    all_hold = (
      λ none.
          let at : (q : ℕ) → PredHolds truth p comps parts q = λ q. subst (MarkTells truth p comps parts q) (none q) (told q) in
          record {
            closed = record {
              clauses = from_places (IsClosedUnder truth (modes.grounds_of p parts)) p.clauses (λ k c e. (at c.head.pred.0).closed.clauses k c e refl);
              builtins = λ q b is. (at q).closed.builtin b is;
            };
            covered = λ m q row. (at q).keeps.covered m row;
            rule = λ m. from_places (KeepsRule truth p comps parts m) p.clauses (λ k c e. (at c.head.pred.0).keeps.rule m k c e refl);
            modes = λ q. (at q).modes;
          },
      λ hold q. none_where q (mark_at marks q) (told q) (record {
        closed = record {
          clauses = λ k c e same. by_places (IsClosedUnder truth (modes.grounds_of p parts)) p.clauses hold.closed.clauses k c e;
          builtin = λ b is. hold.closed.builtins q b is;
        };
        keeps = record {
          covered = λ m row. hold.covered m q row;
          rule = λ m k c e same. by_places (KeepsRule truth p comps parts m) p.clauses (hold.rule m) k c e;
        };
        modes = hold.modes q;
      }),
    )

    pub first_fails : (line : ℕ) → length marks ≡ length p.preds → (fault : Option ModeFault) → IfSome fault (IsFirstMark marks line) → IfSome fault (IsFirstPred truth p comps parts line)
    first_fails line long None is = tt
    first_fails line long (Some f) is = record {
      q = is.q;
      within = omega (arith, mark_within marks is.q f.reason is.mark, long);
      line = is.line;
      reason = subst (MarkTells truth p comps parts is.q) is.mark (told is.q);
      earlier = λ i lt. subst (MarkTells truth p comps parts i) (is.earlier i lt) (told i);
    }
