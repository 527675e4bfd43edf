-- A text that is refused is answered by its refusal, and so is a query.
use Rattle.std.proofs.Common.{◌≡◌, ℕ, List, Some, inl, inr, refl, ap, sym, ◌∙◌, subst}
use Rattle.std.proofs.lemmas.Option.{none-some}
use Rattle.outside.specs.Told.{Map}
use Rattle.command_words.specs.Words.{Ask, infer, check, run, gen, lex, loop, session, file, origin, query_of, asks}
use Rattle.cti_top.specs.Programs.{IsRefused}
use Rattle.cti_top.specs.Sessions.{IsRefusedFor, IsToldBy}
use Rattle.report.specs.Generated.{generated}
use Rattle.cti_terms.specs.Listing.{Listing}
use Rattle.cti_terms.specs.declared.derivation.Goal.{Goal}
use Rattle.cti_top.specs.Queries.{Known, IsQueryOf}
use Rattle.cti_top.specs.Runs.{IsKnown, IsRefusedQuery}
use Rattle.cti_top.specs.Outcome.{TellsText, CertificateRose, FileRose, OriginRose, HasText, IsAnswer, usage, inferred, lexed, summed, ran, looped, played, checked, program_too_long, program_refused, query_refused, certificate_too_long, certificate_refused}
use Rattle.cti_top.specs.declared.status.Status.{Status}
use Rattle.cti_top.specs.declared.status.Status.TheVariants.{Refused}
use Rattle.cti_top.proofs.OneAnswer.{none_refused, no_query_refused}
use Rattle.cti_top.proofs.OneSession.{told_or_refused}
use Rattle.cti_top.proofs.OutcomeLemmas.{same_text, one_ask, one_text, one_query, no_query}

module _ (told : Map) (words : List (List ℕ)) where
  -- no program stands in a file that is refused
  none_known : (ask k : Ask) (bytes b : List ℕ) (kind at : ℕ) (known : Known) → asks words ≡ Some ask → asks words ≡ Some k → HasText told (origin ask) bytes
      → TellsText told (origin k) b → IsRefused bytes kind at → IsKnown b known → ⊥
  none_known ask k bytes b kind at known asked a has t r is =
      let same = same_text told (origin k) (origin ask) b bytes (ap origin (one_ask words k ask a asked)) has t in
      none_refused bytes known (subst (λ (x : List ℕ). IsKnown x known) same is) kind at r

  -- what refuses the text of what is asked refuses it, however that is called
  refused_as : (ask k : Ask) (bytes : List ℕ) (kind at : ℕ) → asks words ≡ Some ask → asks words ≡ Some k → IsRefusedFor ask bytes kind at → IsRefusedFor k bytes kind at
  refused_as ask k bytes kind at asked a r = subst (λ (x : Ask). IsRefusedFor x bytes kind at) (one_ask words ask k asked a) r

  -- so no count of a certificate's file rises there
  no_certificate_rose : (ask k : Ask) (bytes b : List ℕ) (kind at : ℕ) (known : Known) (before after : List ℕ → ℕ) → asks words ≡ Some ask → asks words ≡ Some k
      → HasText told (origin ask) bytes → TellsText told (origin k) b → IsRefusedFor k bytes kind at → IsKnown b known → CertificateRose k before after → ⊥
  no_certificate_rose ask (check f c) bytes b kind at known before after asked a has t r is rose = none_known ask (check f c) bytes b kind at known asked a has t r is
  no_certificate_rose ask (infer f n) bytes b kind at known before after asked a has t r is rose = rose
  no_certificate_rose ask (run f q n) bytes b kind at known before after asked a has t r is rose = rose
  no_certificate_rose ask (gen n) bytes b kind at known before after asked a has t r is rose = rose
  no_certificate_rose ask (lex f) bytes b kind at known before after asked a has t r is rose = rose
  no_certificate_rose ask (loop f q d) bytes b kind at known before after asked a has t r is rose = rose
  no_certificate_rose ask (session f) bytes b kind at known before after asked a has t r is rose = rose

  -- so that a fault is one of the program's file
  pub unloaded : (ask : Ask) (bytes : List ℕ) (kind at : ℕ) (before after : List ℕ → ℕ) → asks words ≡ Some ask → HasText told (origin ask) bytes
      → IsRefusedFor ask bytes kind at → FileRose told ask before after → OriginRose (origin ask) before after
  unloaded ask bytes kind at before after asked has r (inl rose) = rose
  unloaded ask bytes kind at before after asked has r (inr (b, known, tells, is, rose)) =
      absurd (no_certificate_rose ask ask bytes b kind at known before after asked asked has tells r is rose)

module _ (told : Map) (words : List (List ℕ)) (status : Status) (text : List ℕ) where
  pub refused_answer : (ask : Ask) (bytes : List ℕ) (kind at : ℕ) → IsAnswer told words status text → asks words ≡ Some ask → HasText told (origin ask) bytes
      → IsRefusedFor ask bytes kind at → status ≡ Refused
  refused_answer ask bytes kind at (usage n s e) asked has r = absurd (none-some _ (sym n ∙ asked))
  refused_answer ask bytes kind at (inferred f b n a t m s) asked has r =
      let q = refused_as told words ask (infer f n) bytes kind at asked a r in
      absurd (none_known told words ask (infer f n) bytes b kind at (record { names = m.names; program = m.program; table = m.table }) asked a has t q m.is)
  refused_answer ask bytes kind at (lexed f b a t m s) asked has r =
      let q = refused_as told words ask (lex f) bytes kind at asked a r in
      absurd (none_known told words ask (lex f) bytes b kind at (record { names = m.names; program = m.program; table = m.table }) asked a has t q m.is)
  refused_answer ask bytes kind at (played f b a t m s) asked has r =
      let same = same_text told (file f) (origin ask) b bytes (ap origin (one_ask words (session f) ask a asked)) has t in
      let q = refused_as told words ask (session f) bytes kind at asked a r in
      absurd (told_or_refused bytes m.names m.told kind at (subst (λ (x : List ℕ). IsToldBy x m.names m.told) same m.is) q)
  refused_answer ask bytes kind at (summed n a m s) asked has r =
      let i = m.inferred in
      let q = refused_as told words ask (gen n) bytes kind at asked a r in
      absurd (none_known told words ask (gen n) bytes (generated n) kind at (record { names = i.names; program = i.program; table = i.table }) asked a has refl q i.is)
  refused_answer ask bytes kind at (ran f q n b a t m) asked has r =
      let z = refused_as told words ask (run f q n) bytes kind at asked a r in
      absurd (none_known told words ask (run f q n) bytes b kind at m.known asked a has t z m.is)
  refused_answer ask bytes kind at (looped f q d b a t m) asked has r =
      let z = refused_as told words ask (loop f q d) bytes kind at asked a r in
      absurd (none_known told words ask (loop f q d) bytes b kind at m.known asked a has t z m.is)
  refused_answer ask bytes kind at (checked f c b d k a t i u h) asked has r =
      let z = refused_as told words ask (check f c) bytes kind at asked a r in
      absurd (none_known told words ask (check f c) bytes b kind at k asked a has t z i)
  refused_answer ask bytes kind at (program_too_long k a m s e) asked has r = s
  refused_answer ask bytes kind at (program_refused k b kind' at' a t q s e) asked has r = s
  refused_answer ask bytes kind at (query_refused k q b kind' at' a w t m s e) asked has r = s
  refused_answer ask bytes kind at (certificate_too_long f c b k a t i m s e) asked has r = s
  refused_answer ask bytes kind at (certificate_refused f c b d k l a t i u q s e) asked has r = s

  -- no goal is the query that is refused
  no_goal : (ask k : Ask) (query q bytes b : List ℕ) (kind at : ℕ) (known : Known) (names : List (List ℕ)) (p : Listing) (g : Goal) → asks words ≡ Some ask → asks words ≡ Some k
      → query_of ask ≡ Some query → query_of k ≡ Some q → HasText told (origin ask) bytes → TellsText told (origin k) b → IsRefusedQuery bytes query kind at
      → IsKnown b known → IsQueryOf known q names p g → ⊥
  no_goal ask k query q bytes b kind at known names p g asked a v w has t r is goal =
      let same = one_text told words ask k asked a bytes b has t in
      let same_query = one_query told words ask k asked a query q v w in
      no_query_refused b q known names p g is goal kind at (rw (same, same_query) r)

  pub query_refused_answer : (ask : Ask) (query bytes : List ℕ) (kind at : ℕ) → IsAnswer told words status text → asks words ≡ Some ask → query_of ask ≡ Some query
      → HasText told (origin ask) bytes → IsRefusedQuery bytes query kind at → status ≡ Refused
  query_refused_answer ask query bytes kind at (usage n s e) asked v has r = absurd (none-some _ (sym n ∙ asked))
  query_refused_answer ask query bytes kind at (inferred f b n a t m s) asked v has r = absurd (no_query words (infer f n) ask query a asked v refl)
  query_refused_answer ask query bytes kind at (lexed f b a t m s) asked v has r = absurd (no_query words (lex f) ask query a asked v refl)
  query_refused_answer ask query bytes kind at (played f b a t m s) asked v has r = absurd (no_query words (session f) ask query a asked v refl)
  query_refused_answer ask query bytes kind at (summed n a m s) asked v has r = absurd (no_query words (gen n) ask query a asked v refl)
  query_refused_answer ask query bytes kind at (ran f q n b a t m) asked v has r =
      absurd (no_goal ask (run f q n) query q bytes b kind at m.known m.names m.program m.goal asked a v refl has t r m.is m.asked)
  query_refused_answer ask query bytes kind at (looped f q d b a t m) asked v has r =
      absurd (no_goal ask (loop f q d) query q bytes b kind at m.known m.names m.program m.goal asked a v refl has t r m.is m.asked)
  query_refused_answer ask query bytes kind at (checked f c b d k a t i u h) asked v has r = absurd (no_query words (check f c) ask query a asked v refl)
  query_refused_answer ask query bytes kind at (program_too_long k a m s e) asked v has r = s
  query_refused_answer ask query bytes kind at (program_refused k b kind' at' a t q s e) asked v has r = s
  query_refused_answer ask query bytes kind at (query_refused k q b kind' at' a w t m s e) asked v has r = s
  query_refused_answer ask query bytes kind at (certificate_too_long f c b k a t i m s e) asked v has r = s
  query_refused_answer ask query bytes kind at (certificate_refused f c b d k l a t i u q s e) asked v has r = s
