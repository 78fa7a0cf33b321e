use Rattle.std.proofs.Common.{◌∙◌}
use Rattle.s360_index.proofs.SegmentLemmas.{AreSegments-copied, KeepsNumbers-copied}
use Rattle.s360_index.proofs.segments.Segments.copy.Goals as goal

pub returns-clause-whole : goal.returns-clause-whole
returns-clause-whole c =
    AreSegments-copied c.args.self.now (record { labels = c.in_ok-labels.labels; segments = c.in_ok-segments.segments; alloc = c.args.self.now.alloc })
    (c.in_ok-labels.ensures.items ∙ c.deref.ensures.value) c.in_ok-segments.ensures.cases.0 c.requires.whole

pub returns-clause-numbers : goal.returns-clause-numbers
returns-clause-numbers c =
    KeepsNumbers-copied c.args.self.now (record { labels = c.in_ok-labels.labels; segments = c.in_ok-segments.segments; alloc = c.args.self.now.alloc })
    (c.in_ok-labels.ensures.items ∙ c.deref.ensures.value) c.in_ok-segments.ensures.cases.0
