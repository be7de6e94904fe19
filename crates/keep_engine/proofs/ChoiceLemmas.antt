-- What was kept, and then some parts more.
use Rattle.std.proofs.Common.{◌≡◌, ℕ, List, [], ◌∷◌, ◌++◌, Option, Some, None, Ok, Err, refl, sym, ap, ap₂, ◌∙◌, append_assoc}
use Rattle.std.proofs.lemmas.List.{append-nil}
use Rattle.console.specs.declared.filter.CodeFault.{CodeFault}
use Rattle.keep_engine.specs.declared.choice.KeptBytes.{KeptBytes}
use Rattle.keep_engine.specs.Keeping.{Part, stop_of, text_of}
use Rattle.keep_engine.specs.Sieving.{Appends, stop_after, text_after}

text_none : (stop : Option CodeFault) (text : List ℕ) → text ≡ text_after stop [] text
text_none None text = sym (append-nil text)
text_none (Some fault) text = refl

stop_none : (stop : Option CodeFault) → stop ≡ stop_after stop []
stop_none None = refl
stop_none (Some fault) = refl

pub appends_none : (kept : KeptBytes) → Appends [] kept kept
appends_none kept = (text_none kept.stop kept.bytes.items, stop_none kept.stop)

-- bytes that are none
nothing_after : (stop : Option CodeFault) (text : List ℕ) → text ≡ text_after stop (Ok [] ∷ []) text
nothing_after None text = sym (append-nil text)
nothing_after (Some fault) text = refl

going_on : (stop : Option CodeFault) → stop ≡ stop_after stop (Ok [] ∷ [])
going_on None = refl
going_on (Some fault) = refl

pub appends_nothing : (kept : KeptBytes) → Appends (Ok [] ∷ []) kept kept
appends_nothing kept = (nothing_after kept.stop kept.bytes.items, going_on kept.stop)

-- some parts and then others
text_on : (kept more : List Part) (text : List ℕ) → text ++ text_of (kept ++ more) ≡ text_after (stop_of kept) more (text ++ text_of kept)
text_on [] more text = ap (λ t. t ++ text_of more) (sym (append-nil text))
text_on (Ok bytes ∷ kept) more text =
    sym (append_assoc text bytes (text_of (kept ++ more))) ∙ text_on kept more (text ++ bytes) ∙ ap (λ t. text_after (stop_of kept) more t) (append_assoc text bytes (text_of kept))
text_on (Err fault ∷ kept) more text = refl

stop_on : (kept more : List Part) → stop_of (kept ++ more) ≡ stop_after (stop_of kept) more
stop_on [] more = refl
stop_on (Ok bytes ∷ kept) more = stop_on kept more
stop_on (Err fault ∷ kept) more = refl

text_then : (stop : Option CodeFault) (kept more : List Part) (text : List ℕ) → text_after stop (kept ++ more) text ≡ text_after (stop_after stop kept) more (text_after stop kept text)
text_then None kept more text = text_on kept more text
text_then (Some fault) kept more text = refl

stop_then : (stop : Option CodeFault) (kept more : List Part) → stop_after stop (kept ++ more) ≡ stop_after (stop_after stop kept) more
stop_then None kept more = stop_on kept more
stop_then (Some fault) kept more = refl

pub appends_then : (kept more : List Part) (before between after : KeptBytes) → Appends kept before between → Appends more between after → Appends (kept ++ more) before after
appends_then kept more before between after first second = (
  second.0 ∙ ap₂ (λ s t. text_after s more t) first.1 first.0 ∙ sym (text_then before.stop kept more before.bytes.items),
  second.1 ∙ ap (λ s. stop_after s more) first.1 ∙ sym (stop_then before.stop kept more),
)

-- where nothing stopped it
pub text_append : (kept more : List Part) → stop_of kept ≡ None → text_of (kept ++ more) ≡ text_of kept ++ text_of more
text_append kept more going = text_on kept more [] ∙ ap (λ s. text_after s more (text_of kept)) going

pub stop_append : (kept more : List Part) → stop_of kept ≡ None → stop_of (kept ++ more) ≡ stop_of more
stop_append kept more going = stop_on kept more ∙ ap (λ s. stop_after s more) going
