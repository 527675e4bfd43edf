-- A store that keeps its map and lets no count fall.
use Rattle.std.proofs.Common.{◌≡◌, ℕ, ◌≤◌, List, inl, inr, refl, ◌∙◌, arith}
use Rattle.outside.specs.Told.{Map, Keeps}
use Rattle.outside.specs.Causes.{Rose}
use Rattle.cti_top.specs.Outcome.{CertificateRose, FileRose, OriginRose}
use Rattle.command_words.specs.Words.{Ask, infer, check, run, gen, lex, loop, session, Origin, file, generated, origin}

-- a store that no call has touched
pub untouched : (told : Map) (faults : List ℕ → ℕ) → Keeps told told faults faults
untouched told faults = record { map = refl; counts = λ name. omega arith }

-- a store after a load
pub loaded : (told after : Map) (faults later : List ℕ → ℕ) → after ≡ told → ((name : List ℕ) → faults name ≤ later name) → Keeps told after faults later
loaded told after faults later map counts = record { map = map; counts = counts }

-- one call after another
pub keeps_then : (a b c : Map) (f g h : List ℕ → ℕ) → Keeps a b f g → Keeps b c g h → Keeps a c f h
keeps_then a b c f g h first second = record {
  map = second.map ∙ first.map;
  counts = λ name. let l = first.counts name in let m = second.counts name in omega (arith, l, m);
}

-- a count that is always 0 does not rise
pub never_rises : Rose 0 0 → ⊥
never_rises rose = omega (arith, rose)

-- nor does that of a file that the words name
no_origin_rises : (o : Origin) → OriginRose o (λ name. 0) (λ name. 0) → ⊥
no_origin_rises (file name) rose = never_rises rose
no_origin_rises (generated n) rose = rose

no_certificate_rises : (ask : Ask) → CertificateRose ask (λ name. 0) (λ name. 0) → ⊥
no_certificate_rises (infer f norm) rose = rose
no_certificate_rises (check f certificate) rose = never_rises rose
no_certificate_rises (run f query steps) rose = rose
no_certificate_rises (gen n) rose = rose
no_certificate_rises (lex f) rose = rose
no_certificate_rises (loop f query depth) rose = rose
no_certificate_rises (session f) rose = rose

pub no_file_rises : (told : Map) (ask : Ask) → FileRose told ask (λ name. 0) (λ name. 0) → ⊥
no_file_rises told ask (inl rose) = no_origin_rises (origin ask) rose
no_file_rises told ask (inr (bytes, known, tells, is, rose)) = no_certificate_rises ask rose

-- a certificate's count that rose after calls that did not change it
pub certificate_rose : (ask : Ask) (before between after : List ℕ → ℕ) → ((name : List ℕ) → between name ≡ before name) → CertificateRose ask between after → CertificateRose ask before after
certificate_rose (infer f norm) before between after calm rose = rose
certificate_rose (check f certificate) before between after calm rose = rw (calm certificate) at rose
certificate_rose (run f query steps) before between after calm rose = rose
certificate_rose (gen n) before between after calm rose = rose
certificate_rose (lex f) before between after calm rose = rose
certificate_rose (loop f query depth) before between after calm rose = rose
certificate_rose (session f) before between after calm rose = rose

-- the certificate's count rises only where a certificate is asked for
pub none_asked : (ask : Ask) (before after : List ℕ → ℕ) → ((name certificate : List ℕ) → ask ≡ check name certificate → ⊥) → CertificateRose ask before after → ⊥
none_asked (infer f norm) before after none rose = rose
none_asked (check f certificate) before after none rose = none f certificate refl
none_asked (run f query steps) before after none rose = rose
none_asked (gen n) before after none rose = rose
none_asked (lex f) before after none rose = rose
none_asked (loop f query depth) before after none rose = rose
none_asked (session f) before after none rose = rose
