use Rattle.std.proofs.Common.{refl}
use Rattle.prolog_reader.specs.Meanings.{table_of}
use Rattle.cti_top.proofs.inferring.infer_of.Goals as goal

pub returns : goal.returns
returns c =
    let s = c.args.source.now in
    let text = c.in_ok-infer_text.ensures in (
      refl,
      λ bytes is. record {
        names = s.names;
        program = s.program;
        table = table_of s.ops;
        is = is;
        facts = text.facts;
        printed = text.printed;
        of_norm = text.of_norm;
        valid = text.valid;
        exact = text.exact;
        bounded = text.bounded;
      },
    )
