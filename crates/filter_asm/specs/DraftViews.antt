-- What contracts see of a draft. No public clause cites these.
use Rattle.std.specs.Prelude.{List, map, option_map}
use Rattle.filter_asm.specs.Program as spec
use Rattle.filter_asm.specs.declared.draft.Draft.{Draft}

abbrev pub draft_of : Draft → spec.Draft
draft_of d = record { line = d.line; code = d.code; k = d.k; first = option_map (λ l. l.now) d.first; second = option_map (λ l. l.now) d.second; exchanged = d.exchanged }

abbrev pub drafts_of : List Draft → List spec.Draft
drafts_of drafts = map draft_of drafts
