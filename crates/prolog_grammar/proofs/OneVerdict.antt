-- Tokens have exactly one verdict, which the machine that code follows gives.
use Rattle.std.proofs.Common.{◌≡◌, ℕ, List, Option, Ok, Err, refl, ap, sym, ◌∙◌, subst}
use Rattle.prolog_grammar.specs.Token.{Token}
use Rattle.prolog_grammar.specs.Rules.{Infix, Prefix, Rules}
use Rattle.prolog_grammar.specs.Syntax.{Syntax, syntax_rules}
use Rattle.prolog_grammar.specs.Fault.{unexpected, deep, Verdict}
use Rattle.prolog_grammar.specs.Placed.{Part, Known, part_of, placed_rules}
use Rattle.prolog_grammar.specs.Machine.{start}
use Rattle.prolog_grammar.specs.Run.{run}
use Rattle.prolog_grammar.specs.Walk.{walk, verdict_map}
use Rattle.prolog_grammar.specs.Reading.{IsVerdict}
use Rattle.prolog_grammar.proofs.DeepRuns.{deep_run}
use Rattle.prolog_grammar.proofs.DeepExact.{reads_within, within_reads, unexpected_run, unexpected_found, deep_found}
use Rattle.prolog_grammar.proofs.Parts.{walks_placed}

module _ (limit : ℕ) (infixes : ℕ → Option Infix) (prefixes : ℕ → Option Prefix) (names : Known) where
  abbrev rules : Rules Syntax
  rules = syntax_rules infixes prefixes names.comma

  abbrev builders : Rules Part
  builders = placed_rules limit infixes prefixes names

  -- each verdict of the machine of the laws is one on the terms with places
  verdict_of : (us : List Token) (v : Verdict Syntax) → run limit rules start us ≡ v
      → IsVerdict limit infixes prefixes names us (verdict_map (part_of limit names) v)
  verdict_of us (Ok r) e =
      let reading = reads_within infixes prefixes names.comma limit us r.1 r.0 e in
      record { syntax = r.0; priority = reading.0; reads = reading.1; shallow = reading.2; built = refl }
  verdict_of us (Err (unexpected rest)) e = unexpected_run infixes prefixes names.comma limit us rest e
  verdict_of us (Err (deep rest)) e = deep_run infixes prefixes names.comma limit us rest e

  pub verdict_found : (us : List Token) → IsVerdict limit infixes prefixes names us (walk limit builders start us)
  verdict_found us =
      subst (IsVerdict limit infixes prefixes names us) (sym (walks_placed limit infixes prefixes names us)) (verdict_of us (run limit rules start us) refl)

  -- what the machine of the laws gives, on the terms with places
  walk_from : (us : List Token) (v : Verdict Syntax) → run limit rules start us ≡ v
      → walk limit builders start us ≡ verdict_map (part_of limit names) v
  walk_from us v e = walks_placed limit infixes prefixes names us ∙ ap (verdict_map (part_of limit names)) e

  pub one_verdict : (us : List Token) (v : Verdict Part) → IsVerdict limit infixes prefixes names us v → walk limit builders start us ≡ v
  one_verdict us (Ok r) h =
      walk_from us (Ok (h.syntax, r.1)) (within_reads infixes prefixes names.comma limit us r.1 h.syntax h.priority h.reads h.shallow)
      ∙ ap (λ part. Ok (part, r.1)) (sym h.built)
  one_verdict us (Err (unexpected rest)) h =
      walk_from us (Err (unexpected rest)) (unexpected_found infixes prefixes names.comma limit us rest h.0 h.1)
  one_verdict us (Err (deep rest)) h = walk_from us (Err (deep rest)) (deep_found infixes prefixes names.comma limit us rest h)
