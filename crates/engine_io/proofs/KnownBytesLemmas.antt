-- What is got and written by several reads and writes.
use Rattle.std.proofs.Common.{ℕ, List, [], ◌++◌, Option, Some, None, refl, ◌∙◌, ap, sym, append_assoc}
use Rattle.std.specs.Io.KnownBytes.{Appends, Consumes, Keeps}
use Rattle.std.proofs.lemmas.List.{append-nil}
use Rattle.engine_io.specs.declared.source.Source.{Source}
use Rattle.engine_io.specs.declared.sink.Sink.{Sink}
use Rattle.engine_io.specs.Devices.{Gets, GetsNothing, Writes}

-- Known bytes

consumes-then : (old mid new : Option (List ℕ)) (bs more : List ℕ) → Consumes old mid bs → Consumes mid new more → Consumes old new (bs ++ more)
consumes-then None mid new bs more first next = tt
consumes-then (Some xs) None new bs more first next = absurd first
consumes-then (Some xs) (Some ys) None bs more first next = absurd next
consumes-then (Some xs) (Some ys) (Some zs) bs more first next = first ∙ ap (λ rest. bs ++ rest) next ∙ sym (append_assoc bs more zs)

consumes-nothing : (known : Option (List ℕ)) → Consumes known known []
consumes-nothing None = tt
consumes-nothing (Some xs) = refl

consumes-kept : (old mid new : Option (List ℕ)) (bs : List ℕ) → Consumes old mid bs → Keeps mid new → Consumes old new bs
consumes-kept None mid new bs lost kept = tt
consumes-kept (Some xs) None new bs lost kept = absurd lost
consumes-kept (Some xs) (Some ys) None bs lost kept = absurd kept
consumes-kept (Some xs) (Some ys) (Some zs) bs lost kept = rw kept lost

consumes-end : (old mid new : Option (List ℕ)) (bs : List ℕ) → Consumes old mid bs → Consumes mid new [] → Consumes old new bs
consumes-end None mid new bs lost end = tt
consumes-end (Some xs) None new bs lost end = absurd lost
consumes-end (Some xs) (Some ys) None bs lost end = absurd end
consumes-end (Some xs) (Some ys) (Some zs) bs lost end = lost ∙ ap (λ t. bs ++ t) end

pub keeps-itself : (known : Option (List ℕ)) → Keeps known known
keeps-itself None = tt
keeps-itself (Some xs) = refl

appends-then : (old mid new : Option (List ℕ)) (bs more : List ℕ) → Appends old mid bs → Appends mid new more → Appends old new (bs ++ more)
appends-then None mid new bs more first next = tt
appends-then (Some xs) None new bs more first next = absurd first
appends-then (Some xs) (Some ys) None bs more first next = absurd next
appends-then (Some xs) (Some ys) (Some zs) bs more first next = next ∙ ap (λ front. front ++ more) first ∙ append_assoc xs bs more

appends-nothing : (known : Option (List ℕ)) → Appends known known []
appends-nothing None = tt
appends-nothing (Some xs) = sym (append-nil xs)

-- Sources and sinks

-- a source that got bytes and then others got them all
pub gets-then : {R : Type 0} {remaining : R → Option (List ℕ)} (old mid new : Source R) (bs more : List ℕ) → Gets remaining old mid bs → Gets remaining mid new more → Gets remaining old new (bs ++ more)
gets-then old mid new bs more first next = record {
  list = next.list ∙ ap (λ front. front ++ more) first.list ∙ append_assoc old.got.items bs more;
  lost = consumes-then _ _ _ bs more first.lost next.lost;
}

-- a source that is left alone got nothing
pub gets-nothing : {R : Type 0} {remaining : R → Option (List ℕ)} (source : Source R) → Gets remaining source source []
gets-nothing source = record { list = sym (append-nil source.got.items); lost = consumes-nothing _ }

-- a read that got nothing more
pub gets-kept : {R : Type 0} {remaining : R → Option (List ℕ)} (old mid new : Source R) (bs : List ℕ) → Gets remaining old mid bs → GetsNothing remaining mid new → Gets remaining old new bs
gets-kept old mid new bs first kept = record { list = kept.list ∙ first.list; lost = consumes-kept _ _ _ bs first.lost kept.left }

-- a read that met the end
pub gets-end : {R : Type 0} {remaining : R → Option (List ℕ)} (old mid new : Source R) (bs : List ℕ) → Gets remaining old mid bs → Gets remaining mid new [] → Gets remaining old new bs
gets-end old mid new bs first end = record { list = end.list ∙ append-nil mid.got.items ∙ first.list; lost = consumes-end _ _ _ bs first.lost end.lost }

-- a sink to which a text was written and then another took both
pub writes-then : {W : Type 0} {contents : W → Option (List ℕ)} (old mid new : Sink W) (bs more : List ℕ) → Writes contents old mid bs → Writes contents mid new more → Writes contents old new (bs ++ more)
writes-then old mid new bs more first next = record {
  list = next.list ∙ ap (λ front. front ++ more) first.list ∙ append_assoc old.written.items bs more;
  held = appends-then _ _ _ bs more first.held next.held;
}

-- to a sink that is left alone nothing is written
pub writes-nothing : {W : Type 0} {contents : W → Option (List ℕ)} (sink : Sink W) → Writes contents sink sink []
writes-nothing sink = record { list = sym (append-nil sink.written.items); held = appends-nothing _ }
