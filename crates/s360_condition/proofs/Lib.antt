mod KnownExpressions
mod NumberLemmas
mod PcLemmas
mod ReadingLemmas
