use Rattle.std.proofs.Common.{◌∙◌, ℕ, List, length, refl, ap}
use Rattle.certificate.specs.Text.{text_of}
use Rattle.certificate.specs.declared.fact.Fact.{Fact}
use Rattle.prolog_reader.specs.Meanings.{table_of}
use Rattle.cti_top.specs.Summary.{mode_count, summary_line}
use Rattle.cti_top.proofs.generating.gen_of.Goals as goal

pub returns : goal.returns
returns c =
    let s = c.args.source.now in
    let certificate = c.in_ok-certificate in
    let n = c.args.predicates in
    let counted = c.mode_count-modes.ensures ∙ ap (λ (facts : List Fact). mode_count facts) c.as_slice.ensures in (
      refl,
      λ bytes is. record {
        certificate = text_of certificate.certificate.facts;
        inferred = record {
          names = s.names;
          program = s.program;
          table = table_of s.ops;
          is = is;
          facts = certificate.certificate.facts;
          printed = refl;
          of_norm = certificate.ensures.norm;
          valid = certificate.ensures.valid;
          exact = certificate.ensures.exact;
          bounded = certificate.ensures.bounded;
        };
        printed = c.in_ok-summary_text.ensures ∙ ap (λ (k : ℕ). summary_line n k c.mode_count-modes.result) c.clauses.ensures.count ∙ ap (summary_line n (length s.program.clauses)) counted;
      },
    )
