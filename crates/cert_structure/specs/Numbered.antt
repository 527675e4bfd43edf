-- Private.
-- Items in order, numbered from 0: those of any type of facts.
--
-- To believe: what it names, which stands in `fact_reading`.
pub use Rattle.fact_reading.specs.Numbered.{facts_from, lines_from, EachFrom, AreEach}
