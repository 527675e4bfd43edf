mod ExtendLemmas
mod NodeLemmas
