-- Private.
-- The lines of some of the facts, as they are printed. Nothing here has to be believed.
use Rattle.std.specs.Prelude.{ℕ, List, []}
use Rattle.prove_certificate.specs.declared.fact.ProveFact.{ProveFact}
use Rattle.prove_certificate.specs.declared.fact.ProveFact.TheVariants as fact
use Rattle.prove_certificate.specs.Text.{fact_text}

-- the line of a note, and nothing for another fact
abbrev pub note_text : ProveFact → List ℕ
note_text (fact.Image step clause pred rows) = fact_text (fact.Image step clause pred rows)
note_text (fact.Step step pred how rows) = fact_text (fact.Step step pred how rows)
note_text (fact.WeakImage step) = fact_text (fact.WeakImage step)
note_text (fact.WeakStep step) = fact_text (fact.WeakStep step)
note_text (fact.Blown pred support) = fact_text (fact.Blown pred support)
note_text _ = []

-- nothing for a fact that stands before the drops, and else the line
abbrev pub other_text : ProveFact → List ℕ
other_text (fact.Ctiprove version) = []
other_text (fact.Terminates pred modes) = []
other_text (fact.Kinds pred kinds) = []
other_text (fact.Fails pred) = []
other_text (fact.Size pred index row) = []
other_text (fact.By clause index scale multipliers) = []
other_text (fact.Grounds pred index cube) = []
other_text (fact.Level pred list index coeffs offset) = []
other_text f = fact_text f
