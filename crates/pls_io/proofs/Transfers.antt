-- What several reads or writes come to.
use Rattle.std.proofs.Common.{◌≡◌, ℕ, ◌+◌, ◌<◌, ◌≤◌, List, ◌++◌, length, take, drop, Option, Some, sym, ap, ◌∙◌, arith, append_assoc, length-append, length-drop}
use Rattle.std.proofs.lemmas.List.{take_all, take_at, drop-drop, length-take-le}
use Rattle.std.proofs.Math.Seq.{take-add}
use Rattle.pls_io.specs.Streams.{Takes, Reads, Writes}
use Rattle.pls_io.specs.Refusals.{TakesSome, TakesAll, IsTooLong}

-- a write of the rest of the piece goes on
pub Writes-more : (m n : ℕ) (w w' w'' : Option (List ℕ)) (piece rest : List ℕ) → rest ≡ drop m piece → Writes m w piece w' → Writes n w' rest w'' → Writes (m + n) w piece w''
Writes-more m n w w' w'' piece rest is first next =
    record {
      within = omega (arith, first.within, next.within, ap length is, length-drop m piece);
      told = λ before e. next.told _ (first.told before e) ∙ ap Some (append_assoc before (take m piece) (take n rest) ∙ ap (λ ys. before ++ ys) (ap (λ zs. take m piece ++ take n zs) is ∙ sym (take-add m n piece)));
    }

-- what was read so far is the front of what was left, and the rest is left
pub record HasRead (read : List ℕ) (left left' : Option (List ℕ)) : Type 0 where
  pub within : (bytes : List ℕ) → left ≡ Some bytes → length read ≤ length bytes
  pub front : (bytes : List ℕ) → left ≡ Some bytes → read ≡ take (length read) bytes
  pub rest : (bytes : List ℕ) → left ≡ Some bytes → left' ≡ Some (drop (length read) bytes)

-- the bytes that a read put into the buffer
bytes_read : (n : ℕ) (bytes buf : List ℕ) (left' : Option (List ℕ)) (buf' : List ℕ) → Takes n bytes buf left' buf' → take n buf' ≡ take n bytes
bytes_read n bytes buf left' buf' t =
    ap (λ ys. take n ys) t.filled ∙ take_at (take n bytes) (drop n buf) n (length-take-le n bytes t.within)

-- a read goes on
pub HasRead-more : (read : List ℕ) (n : ℕ) (left left' left'' : Option (List ℕ)) (buf buf' : List ℕ) → HasRead read left left' → Reads n left' buf left'' buf' → HasRead (read ++ take n buf') left left''
HasRead-more read n left left' left'' buf buf' so_far next =
    let k = length read in
    let step = (λ (bytes : List ℕ) (e : left ≡ Some bytes). next.told (drop k bytes) (so_far.rest bytes e)) in
    let new = (λ (bytes : List ℕ) (e : left ≡ Some bytes). bytes_read n (drop k bytes) buf left'' buf' (step bytes e)) in
    let long = (λ (bytes : List ℕ) (e : left ≡ Some bytes). length-append read (take n buf') ∙ ap (λ ys. k + length ys) (new bytes e) ∙ ap (λ m. k + m) (length-take-le n (drop k bytes) (step bytes e).within)) in
    record {
      within = λ bytes e. omega (arith, long bytes e, (step bytes e).within, length-drop k bytes, so_far.within bytes e);
      front = λ bytes e. ap (λ ys. ys ++ take n buf') (so_far.front bytes e) ∙ ap (λ ys. take k bytes ++ ys) (new bytes e) ∙ sym (take-add k n bytes) ∙ ap (λ m. take m bytes) (sym (long bytes e));
      rest = λ bytes e. (step bytes e).rest ∙ ap Some (drop-drop n k bytes ∙ ap (λ m. drop m bytes) (sym (long bytes e)));
    }

pub TakesSome-from_HasRead : (read : List ℕ) (left left' : Option (List ℕ)) → HasRead read left left' → TakesSome left left'
TakesSome-from_HasRead read left left' so_far = λ bytes e. (length read, so_far.rest bytes e)

-- after the end of input all was read
pub TakesAll-from_end : (limit : ℕ) (read : List ℕ) (n : ℕ) (left left' left'' : Option (List ℕ)) (buf buf' : List ℕ) → n ≡ 0 → length read ≤ limit → 0 < length buf → HasRead read left left' → Reads n left' buf left'' buf' → TakesAll limit left read left''
TakesAll-from_end limit read n left left' left'' buf buf' zero within room so_far next =
    let step = (λ (bytes : List ℕ) (e : left ≡ Some bytes). next.told (drop (length read) bytes) (so_far.rest bytes e)) in
    let none = (λ (bytes : List ℕ) (e : left ≡ Some bytes). (step bytes e).ended room zero) in
    record {
      within = within;
      whole = λ bytes e. so_far.front bytes e ∙ take_all (length read) bytes (omega (arith, length-drop (length read) bytes, ap length (none bytes e)));
      none_left = λ bytes e. (step bytes e).rest ∙ ap Some (ap (λ m. drop m (drop (length read) bytes)) zero ∙ none bytes e);
    }

-- what was read does not fit the limit
pub IsTooLong-from_more : (limit : ℕ) (read : List ℕ) (n : ℕ) (left left' left'' : Option (List ℕ)) (buf buf' : List ℕ) → limit < length read + n → HasRead read left left' → Reads n left' buf left'' buf' → IsTooLong limit left
IsTooLong-from_more limit read n left left' left'' buf buf' more so_far next =
    λ bytes e. omega (arith, more, (next.told (drop (length read) bytes) (so_far.rest bytes e)).within, length-drop (length read) bytes, so_far.within bytes e)
