-- Every byte string has one reading.
use Rattle.std.proofs.Common.{◌≡◌, ℕ, zero, suc, ◌+◌, ◌≤◌, ◌⊎◌, List, [], ◌∷◌, ◌++◌, length, take, drop, arith, refl, ap, sym, ◌∙◌, inl, inr, append_assoc, length-append, length-drop, length-take-le, Option, Some, None, Result, Ok, Err}
use Rattle.std.proofs.lemmas.List.{append-nil, append_cancel_left, take-append-drop}
use Rattle.std.proofs.lemmas.Bool.{cases_lt}
use Rattle.std.proofs.Math.Seq.{take-append_seam}
use Rattle.pcapng_reader.specs.declared.block.Content.{Content}
use Rattle.pcapng_reader.specs.declared.block.Content.TheVariants.{Section, Interface, Packet, Other}
use Rattle.pcapng_reader.specs.declared.front.Front.{Front}
use Rattle.pcapng_reader.specs.declared.front.Front.TheVariants.{Short, Wrong, Whole}
use Rattle.pcapng_reader.specs.declared.fault.CaptureFault.{CaptureFault}
use Rattle.pcapng_reader.specs.declared.fault.CaptureFault.TheVariants.{BadBlock, Truncated, NoMemory}
use Rattle.pcapng_reader.specs.Grammar.{WholeBlock, Place, start, front_at, place_after, IsBlock, Follow, bytes_of, EndsWith}
use Rattle.pcapng_reader.specs.Answers.{HasReading, HasOneReading, HasFronts, GivesWhole, GivesFront, GivesOnly, seen_blocks}
use Rattle.pcapng_reader.specs.declared.seen.Block.{Block}
use Rattle.pcapng_reader.specs.declared.reading.Stop.{Stop}
use Rattle.pcapng_reader.proofs.FrontLemmas.{front-on, first, begins_short}

-- the blocks of two lists, and their places
pub follow-push : (p q : Place) (bs : List WholeBlock) (b : WholeBlock) → Follow p bs q → IsBlock q b → Follow p (bs ++ b ∷ []) (place_after q b.content (length b.bytes))
follow-push p q [] b done one = (rw done one, ap (λ r. place_after r b.content (length b.bytes)) done)
follow-push p q (a ∷ bs) b follow one = (follow.0, follow-push (place_after p a.content (length a.bytes)) q bs b follow.1 one)

pub bytes_of-push : (bs : List WholeBlock) (b : WholeBlock) → bytes_of (bs ++ b ∷ []) ≡ bytes_of bs ++ b.bytes
bytes_of-push [] b = append-nil b.bytes
bytes_of-push (a ∷ bs) b = ap (λ t. a.bytes ++ t) (bytes_of-push bs b) ∙ sym (append_assoc a.bytes (bytes_of bs) b.bytes)

after_offset : (p : Place) (c : Content) (n : ℕ) → (place_after p c n).offset ≡ p.offset + n
after_offset p (Section h) n = refl
after_offset p (Interface i) n = refl
after_offset p (Packet k) n = refl
after_offset p Other n = refl

after_sections : (p : Place) (c : Content) (n : ℕ) → (place_after p c n).sections ≤ p.sections + 1
after_sections p (Section h) n = omega arith
after_sections p (Interface i) n = omega arith
after_sections p (Packet k) n = omega arith
after_sections p Other n = omega arith

pub block_least : (p : Place) (b : WholeBlock) → IsBlock p b → 12 ≤ length b.bytes
block_least p b one = (first p.sections p.big p.interfaces b.bytes (length b.bytes) b.content one.says).least

-- where blocks end
pub follow_offset : (p q : Place) (bs : List WholeBlock) → Follow p bs q → q.offset ≡ p.offset + length (bytes_of bs)
follow_offset p q [] done = ap (λ (r : Place). r.offset) (sym done) ∙ omega arith
follow_offset p q (b ∷ bs) follow =
    let more = follow_offset (place_after p b.content (length b.bytes)) q bs follow.1 in
    omega (arith, more, after_offset p b.content (length b.bytes), length-append b.bytes (bytes_of bs))

-- a section has bytes
pub follow_sections : (p q : Place) (bs : List WholeBlock) → Follow p bs q → p.sections ≤ p.offset → q.sections ≤ q.offset
follow_sections p q [] done few = rw done at few
follow_sections p q (b ∷ bs) follow few =
    follow_sections (place_after p b.content (length b.bytes)) q bs follow.1
    (omega (arith, few, after_offset p b.content (length b.bytes), after_sections p b.content (length b.bytes), block_least p b follow.0))

abbrev pub block_with : ℕ → List ℕ → Content → WholeBlock
block_with offset bytes content = record { offset = offset; bytes = bytes; content = content }

-- less than a block is in no bytes
pub empty_short : (p : Place) → front_at p [] ≡ Short
empty_short p = begins_short p.sections p.big p.interfaces

-- of two cuts of one list, the fronts that are as long are the same
fronts_same : (xs ys more rest : List ℕ) → xs ++ more ≡ ys ++ rest → length xs ≡ length ys → xs ≡ ys
fronts_same xs ys more rest e same = sym (take-append_seam xs more) ∙ ap (take (length xs)) e ∙ ap (λ n. take n (ys ++ rest)) same ∙ take-append_seam ys rest

block_same : (a b : WholeBlock) → a.offset ≡ b.offset → a.bytes ≡ b.bytes → a.content ≡ b.content → a ≡ b
block_same a b o e c = ap (λ x. block_with x a.bytes a.content) o ∙ (ap (λ x. block_with b.offset x a.content) e ∙ ap (block_with b.offset b.bytes) c)

-- bytes with a block in front
pub block-on : (p : Place) (b : WholeBlock) (tail : List ℕ) → IsBlock p b → front_at p (b.bytes ++ tail) ≡ Whole (length b.bytes) b.content
block-on p b tail one = front-on p.sections p.big p.interfaces b.bytes tail (λ short. absurd (not_short one.says short)) ∙ one.says
  where
    not_short : {f : Front} {n : ℕ} {c : Content} → f ≡ Whole n c → f ≡ Short → ⊥
    not_short e s = cc

-- the first blocks of two cuts are the same
pub record FirstSame (b b' : WholeBlock) (tail tail' : List ℕ) : Type 0 where
  pub same : b ≡ b'
  pub tails : tail ≡ tail'

first_same : (p : Place) (b b' : WholeBlock) (tail tail' : List ℕ) → IsBlock p b → IsBlock p b' → b.bytes ++ tail ≡ b'.bytes ++ tail' → FirstSame b b' tail tail'
first_same p b b' tail tail' one one' e =
    let both : Whole (length b.bytes) b.content ≡ Whole (length b'.bytes) b'.content = sym (block-on p b tail one) ∙ (ap (front_at p) e ∙ block-on p b' tail' one') in
    let long : length b.bytes ≡ length b'.bytes = cc in
    let says : b.content ≡ b'.content = cc in
    let same : b.bytes ≡ b'.bytes = fronts_same b.bytes b'.bytes tail tail' e long in
    record {
      same = block_same b b' (one.lies ∙ sym one'.lies) same says;
      tails = append_cancel_left b.bytes tail tail' (e ∙ ap (λ t. t ++ tail') (sym same));
    }

-- where a whole block stands in front, a capture doesn't end
no_end : (p : Place) (b : WholeBlock) (tail rest : List ℕ) (f : Option CaptureFault) → IsBlock p b → rest ≡ b.bytes ++ tail → EndsWith p rest f → ⊥
no_end p b tail rest None one e ends = omega (arith, ap length e, ap length ends.0, length-append b.bytes tail, block_least p b one)
no_end p b tail rest (Some (BadBlock error at)) one e ends = let whole : front_at p rest ≡ Whole (length b.bytes) b.content = ap (front_at p) e ∙ block-on p b tail one in let wrong = ends.0 in absurd (cc)
no_end p b tail rest (Some (Truncated at)) one e ends = let whole : front_at p rest ≡ Whole (length b.bytes) b.content = ap (front_at p) e ∙ block-on p b tail one in let short = ends.1 in absurd (cc)
no_end p b tail rest (Some NoMemory) one e ends = ends

ends_one : (p : Place) (rest : List ℕ) (f f' : Option CaptureFault) → EndsWith p rest f → EndsWith p rest f' → f ≡ f'
ends_one p rest None None e e' = refl
ends_one p rest None (Some (BadBlock error' at')) e e' = let short : front_at p rest ≡ Short = ap (front_at p) e.0 ∙ empty_short p in let wrong = e'.0 in absurd (cc)
ends_one p rest None (Some (Truncated at')) e e' = absurd (elim e'.0 [ inl some ↦ omega (arith, ap length e.0, some) | inr none ↦ omega (arith, e.1, none) ])
ends_one p rest None (Some NoMemory) e e' = absurd e'
ends_one p rest (Some (BadBlock error at)) None e e' = let short : front_at p rest ≡ Short = ap (front_at p) e'.0 ∙ empty_short p in let wrong = e.0 in absurd (cc)
ends_one p rest (Some (BadBlock error at)) (Some (BadBlock error' at')) e e' =
    let both : Wrong error ≡ Wrong error' = sym e.0 ∙ e'.0 in
    let same : error ≡ error' = cc in
    ap (λ x. Some (BadBlock x at)) same ∙ ap (λ x. Some (BadBlock error' x)) (e.1 ∙ sym e'.1)
ends_one p rest (Some (BadBlock error at)) (Some (Truncated at')) e e' = let wrong = e.0 in let short = e'.1 in absurd (cc)
ends_one p rest (Some (BadBlock error at)) (Some NoMemory) e e' = absurd e'
ends_one p rest (Some (Truncated at)) None e e' = absurd (elim e.0 [ inl some ↦ omega (arith, ap length e'.0, some) | inr none ↦ omega (arith, e'.1, none) ])
ends_one p rest (Some (Truncated at)) (Some (BadBlock error' at')) e e' = let wrong = e'.0 in let short = e.1 in absurd (cc)
ends_one p rest (Some (Truncated at)) (Some (Truncated at')) e e' = ap (λ x. Some (Truncated x)) (e.2 ∙ sym e'.2)
ends_one p rest (Some (Truncated at)) (Some NoMemory) e e' = absurd e'
ends_one p rest (Some NoMemory) f' e e' = absurd e

follow_one : (p q q' : Place) (bs bs' : List WholeBlock) (rest rest' : List ℕ) (f f' : Option CaptureFault) → bytes_of bs ++ rest ≡ bytes_of bs' ++ rest'
    → Follow p bs q → Follow p bs' q' → EndsWith q rest f → EndsWith q' rest' f' → (bs ≡ bs') × (f ≡ f')
follow_one p q q' [] [] rest rest' f f' e done done' ends ends' =
    (refl, ends_one p rest f f' (rw (sym done) at ends) (rw (sym done', sym e) at ends'))
follow_one p q q' [] (b' ∷ bs') rest rest' f f' e done follow' ends ends' =
    absurd (no_end p b' (bytes_of bs' ++ rest') rest f follow'.0 (e ∙ append_assoc b'.bytes (bytes_of bs') rest') (rw (sym done) at ends))
follow_one p q q' (b ∷ bs) [] rest rest' f f' e follow done' ends ends' =
    absurd (no_end p b (bytes_of bs ++ rest) rest' f' follow.0 (sym e ∙ append_assoc b.bytes (bytes_of bs) rest) (rw (sym done') at ends'))
follow_one p q q' (b ∷ bs) (b' ∷ bs') rest rest' f f' e follow follow' ends ends' =
    let firsts = first_same p b b' (bytes_of bs ++ rest) (bytes_of bs' ++ rest') follow.0 follow'.0 (sym (append_assoc b.bytes (bytes_of bs) rest) ∙ (e ∙ append_assoc b'.bytes (bytes_of bs') rest')) in
    let moved : Follow (place_after p b.content (length b.bytes)) bs' q' = rw firsts.same follow'.1 in
    let more = follow_one (place_after p b.content (length b.bytes)) q q' bs bs' rest rest' f f' firsts.tails follow.1 moved ends ends' in
    (ap (λ x. x ∷ bs) firsts.same ∙ ap (λ xs. b' ∷ xs) more.0, more.1)

pub one_reading : (bytes : List ℕ) → HasOneReading bytes
one_reading bytes blocks blocks' fault fault' r r' =
    follow_one start r.place r'.place blocks blocks' r.rest r'.rest fault fault' (sym r.parts ∙ r'.parts) r.follow r'.follow r.ends r'.ends

follow_front : (p q q' : Place) (bs bs' : List WholeBlock) (more rest' : List ℕ) (f' : Option CaptureFault) → bytes_of bs ++ more ≡ bytes_of bs' ++ rest'
    → Follow p bs q → Follow p bs' q' → EndsWith q' rest' f' → (left : List WholeBlock) × (bs' ≡ bs ++ left)
follow_front p q q' [] bs' more rest' f' e done follow' ends' = (bs', refl)
follow_front p q q' (b ∷ bs) [] more rest' f' e follow done' ends' =
    absurd (no_end p b (bytes_of bs ++ more) rest' f' follow.0 (sym e ∙ append_assoc b.bytes (bytes_of bs) more) (rw (sym done') at ends'))
follow_front p q q' (b ∷ bs) (b' ∷ bs') more rest' f' e follow follow' ends' =
    let firsts = first_same p b b' (bytes_of bs ++ more) (bytes_of bs' ++ rest') follow.0 follow'.0 (sym (append_assoc b.bytes (bytes_of bs) more) ∙ (e ∙ append_assoc b'.bytes (bytes_of bs') rest')) in
    let moved : Follow (place_after p b.content (length b.bytes)) bs' q' = rw firsts.same follow'.1 in
    let found = follow_front (place_after p b.content (length b.bytes)) q q' bs bs' more rest' f' firsts.tails follow.1 moved ends' in
    (found.0, ap (λ xs. b' ∷ xs) found.1 ∙ ap (λ x. x ∷ (bs ++ found.0)) (sym firsts.same))

pub has_fronts : (bytes : List ℕ) → HasFronts bytes
has_fronts bytes blocks blocks' fault r r' =
    follow_front start r.place r'.place blocks blocks' r.more r'.rest fault (sym r.parts ∙ r'.parts) r.follow r'.follow r'.ends

-- bytes in whole blocks, and what follows them
record SomeBlocks (p : Place) (bytes : List ℕ) : Type 0 where
  pub blocks : List WholeBlock
  pub place : Place
  pub rest : List ℕ
  pub fault : Option CaptureFault
  pub parts : bytes ≡ bytes_of blocks ++ rest
  pub follow : Follow p blocks place
  pub ends : EndsWith place rest fault

ended : (p : Place) (bytes : List ℕ) (f : Option CaptureFault) → EndsWith p bytes f → SomeBlocks p bytes
ended p bytes f e = record {
  blocks = [];
  place = p;
  rest = bytes;
  fault = f;
  parts = refl;
  follow = refl;
  ends = e;
}

one_more : (p : Place) (b : WholeBlock) (bytes tail : List ℕ) → bytes ≡ b.bytes ++ tail → IsBlock p b → SomeBlocks (place_after p b.content (length b.bytes)) tail → SomeBlocks p bytes
one_more p b bytes tail e one more = record {
  blocks = b ∷ more.blocks;
  place = more.place;
  rest = more.rest;
  fault = more.fault;
  parts = e ∙ (ap (λ t. b.bytes ++ t) more.parts ∙ sym (append_assoc b.bytes (bytes_of more.blocks) more.rest));
  follow = (one, more.follow);
  ends = more.ends;
}

short_end : (p : Place) (bytes : List ℕ) → front_at p bytes ≡ Short → SomeBlocks p bytes
short_end p [] short = elim (cases_lt 0 p.sections) [
  | inl some ↦ ended p [] None (refl, some)
  | inr none ↦ ended p [] (Some (Truncated p.offset)) (inr (omega (arith, none)), short, refl)
]
short_end p (x ∷ bytes) short = ended p (x ∷ bytes) (Some (Truncated p.offset)) (inl (omega arith), short, refl)

-- what bytes begin with decides how they go on
some_front : (n : ℕ) (p : Place) (bytes : List ℕ) (f : Front) → ((q : Place) (tail : List ℕ) → length tail ≤ n → SomeBlocks q tail) → length bytes ≤ suc n → front_at p bytes ≡ f → SomeBlocks p bytes
some_front n p bytes Short more few is = short_end p bytes is
some_front n p bytes (Wrong error) more few is = ended p bytes (Some (BadBlock error p.offset)) (is, refl)
some_front n p bytes (Whole total content) more few is =
    let whole = first p.sections p.big p.interfaces bytes total content is in
    let long : length (take total bytes) ≡ total = length-take-le total bytes whole.within in
    let b = block_with p.offset (take total bytes) content in
    let one : IsBlock p b = record { lies = refl; says = whole.alone ∙ ap (λ k. Whole k content) (sym long) } in
    one_more p b bytes (drop total bytes) (sym (take-append-drop total bytes)) one
    (more (place_after p content (length (take total bytes))) (drop total bytes) (omega (arith, length-drop total bytes, few, whole.least)))

some_blocks : (n : ℕ) (p : Place) (bytes : List ℕ) → length bytes ≤ n → SomeBlocks p bytes
some_blocks zero p [] few = short_end p [] (empty_short p)
some_blocks zero p (x ∷ bytes) few = absurd (omega arith)
some_blocks (suc n) p bytes few = some_front n p bytes (front_at p bytes) (some_blocks n) few refl

pub has_reading : (bytes : List ℕ) → HasReading bytes
has_reading bytes =
    let some = some_blocks (length bytes) start bytes (omega arith) in
    (some.blocks, some.fault, record { place = some.place; rest = some.rest; parts = some.parts; follow = some.follow; ends = some.ends })

pub gives_only : (bytes : List ℕ) (r : Result (List Block) Stop) → GivesWhole bytes r ⊎ GivesFront bytes r → GivesOnly bytes r
gives_only bytes (Ok blocks) (inl whole) others fault reads = let one = one_reading bytes (seen_blocks blocks) others None fault whole reads in inl (sym one.0, sym one.1)
gives_only bytes (Err stop) (inl whole) others fault reads = let one = one_reading bytes (seen_blocks stop.before) others (Some stop.fault) fault whole reads in inl (sym one.0, sym one.1)
gives_only bytes (Ok blocks) (inr front) others fault reads = absurd front
gives_only bytes (Err stop) (inr front) others fault reads = let begins = has_fronts bytes (seen_blocks stop.before) others fault front.1 reads in inr (front.0, begins.0, begins.1)
