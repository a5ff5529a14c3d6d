-- The purpose of the listing is about something: that the five leave no other block is known by the decoder that is complete after them.
-- Assumes nothing.
use mathlib.Core.Path.{◌≡◌, refl, sym, ap, ◌∙◌}
use mathlib.Core.List.{List, [], ◌∷◌, ◌++◌, reverse}
use Prim.Native.Nat.{ℕ, zero, suc, ◌<◌}
use native.Mathlib.Omega.{arith}
use lib.ListN.{length, take, replicate, length-replicate}
use lib.Seq.{take-append_seam}
use Rattle.galois.specs.Gf.{xtime, times, mul}
use Rattle.gf256.proofs.Known.{fips}
use Rattle.linear.specs.All.{All, none, more, Bytes}
use Rattle.linear.specs.Pieces.{column, dot, Truthful}
use Rattle.linear.specs.Blocks.{Agrees, Unique}
use Rattle.linear.specs.Buffer.{rows_of}
use Rattle.linear.proofs.All.{all_head, all_append, all_append_left, all_append_right}
use Rattle.block.specs.Padding.{marker, filled}
use Rattle.stream.specs.declared.Geometry.TheVariants.{Of3By2}
use Rattle.stream.specs.Streams.{largest, records_of}
use Rattle.decoder.specs.Records.{taken_limit}
use Rattle.listing.specs.Listing.{block_room}
use Rattle.joiner.proofs.Prints.{runs}
use Rattle.demands.specs.Purpose.{block_of, heard, Sends, sent, Another}
use Rattle.demands.specs.PurposeWitness.{the_data, after_many, FiveJoined, PurposeWitness}
use Rattle.demands.specs.Witness.{four, five, the_block}
use Rattle.demands.proofs.Demand3.{demand3}
use Rattle.demands.proofs.Fed.{all_turned, unique_back}
use Rattle.demands.proofs.Purpose.{purpose}
use Rattle.demands.proofs.HandsOver.{hands_over}
use Rattle.demands.proofs.Witness.{bytes_of, truthful, witness}

padded_data : block_of Of3By2 the_data ≡ the_block
unfolding rows_of filled
padded_data = refl

abbrev first : List ℕ
first = 0 ∷ 0 ∷ 1 ∷ 0x81 ∷ 0 ∷ []

abbrev fifth : List ℕ
fifth = 1 ∷ 0 ∷ 0 ∷ 0x61 ∷ 0x62 ∷ []

-- ---- the pieces in the order in which they are sent

sizes : All (λ p. length p ≡ 5) (reverse five)
sizes = more refl (more refl (more refl (more refl (more refl none))))

piece_bytes : All Bytes (reverse five)
piece_bytes = more (bytes_of first tt) (more (bytes_of first tt) (more (bytes_of first tt) (more (bytes_of (0 ∷ 1 ∷ 0 ∷ 0x63 ∷ 0x64 ∷ []) tt) (more (bytes_of fifth tt) none))))

agrees : Agrees fips 3 2 (reverse five) the_block
unfolding Agrees
agrees = all_turned five [] witness.agrees none

sends : (pieces counted : List (List ℕ)) → All (λ p. length p ≡ 5) pieces → All Bytes pieces → Agrees fips 3 2 counted the_block → Sends fips Of3By2 the_data pieces counted
sends pieces counted z b a =
    record { some = omega arith; fits = omega arith; data_bytes = bytes_of the_data tt; sizes = z; piece_bytes = b; truthful = rw padded_data a }

no_other : Unique fips 3 2 (reverse five) the_block
no_other =
    unique_back fips 3 2 (reverse five) the_block
    ((demand3 witness.after_five.history marker the_block witness.block witness.agrees).closes.0 witness.closed)

-- ---- the first piece of the block is left open by the first four

abbrev other_block : List (List ℕ)
other_block = (0 ∷ 0 ∷ []) ∷ (0x63 ∷ 0x64 ∷ []) ∷ (0x81 ∷ 0 ∷ []) ∷ []

first_agrees : Truthful fips 3 2 other_block first
unfolding dot column xtime times mul
first_agrees = truthful other_block first refl refl

four_agree : Agrees fips 3 2 (reverse four) other_block
unfolding Agrees dot column xtime times mul
four_agree = more first_agrees (more first_agrees (more first_agrees (more (truthful other_block (0 ∷ 1 ∷ 0 ∷ 0x63 ∷ 0x64 ∷ []) refl refl) none)))

another : (pieces : List (List ℕ)) → Agrees fips 3 2 pieces other_block → Another fips 3 2 pieces the_block
another pieces a = record {
  other = other_block;
  is_block = record {
    count = refl;
    sizes = more refl (more refl (more refl none));
    bytes = more (bytes_of (0 ∷ 0 ∷ []) tt) (more (bytes_of (0x63 ∷ 0x64 ∷ []) tt) (more (bytes_of (0x81 ∷ 0 ∷ []) tt) none));
  };
  agrees = a;
  differs = λ e. let never : ◌≡◌ {A = ℕ} 0 0x61 = cc in omega arith;
}

-- ---- many copies of the first piece, and then the five

all_copies : {A : Type 0} {P : A → Type 0} (x : A) → P x → (n : ℕ) → All P (replicate n x)
all_copies x h zero = none
all_copies x h (suc n) = more h (all_copies x h n)

module _ (n : ℕ) where
  sends_after : (counted : List (List ℕ)) → Agrees fips 3 2 counted the_block → Sends fips Of3By2 the_data (after_many n) counted
  unfolding after_many
  sends_after counted a = sends (after_many n) counted (all_append (all_copies first refl n) sizes) (all_append (all_copies first (bytes_of first tt) n) piece_bytes) a

  all_agree : Agrees fips 3 2 (after_many n) the_block
  unfolding after_many Agrees
  all_agree = all_append (all_copies first (all_head agrees) n) agrees

  no_other_after : Unique fips 3 2 (after_many n) the_block
  unfolding after_many Unique Agrees
  no_other_after other o a = no_other other o (all_append_right (replicate n first) (reverse five) a)

  front : take n (after_many n) ≡ replicate n first
  unfolding after_many
  front = ap (λ (m : ℕ). take m (replicate n first ++ reverse five)) (sym (length-replicate n first)) ∙ take-append_seam (replicate n first) (reverse five)

  front_agrees : Agrees fips 3 2 (take n (after_many n)) the_block
  unfolding Agrees
  front_agrees = rw front (all_copies first (all_head agrees) n)

  another_before : Another fips 3 2 (take n (after_many n)) the_block
  unfolding Agrees
  another_before = rw front (another (replicate n first) (all_copies first first_agrees n))

another_in_time : Another fips 3 2 (heard (after_many taken_limit)) (block_of Of3By2 the_data)
another_in_time = rw padded_data (another_before taken_limit)

-- ---- a machine that is fed with the five

sends_five : Sends fips Of3By2 the_data (reverse five) (reverse five)
sends_five = sends (reverse five) (reverse five) sizes piece_bytes agrees

short : length (sent Of3By2 (reverse five) []) < largest
unfolding records_of
short = omega arith

five_joined : FiveJoined
five_joined =
    let area : List ℕ = replicate block_room 0 in
    let (n, few, (text, last, block, run)) = runs fips area (sent Of3By2 (reverse five) []) (omega (arith, length-replicate {A = ℕ} block_room 0)) short in
    let (ends, data_in) = (hands_over fips Of3By2 the_data (reverse five) (reverse five) (purpose fips Of3By2 the_data (reverse five) sends_five)).rebuilt
    (rw padded_data no_other) [] short n area text last block run in
    record { turns = n; text = text; last = last; block = block; run = run; ends = ends; handed_over = data_in }

pub purpose_witness : PurposeWitness
unfolding Agrees
purpose_witness = record {
  sends_five = sends_five;
  no_other = rw padded_data no_other;
  five_joined = five_joined;
  sends_four = sends (reverse four) (reverse four) (all_append_left (reverse four) (fifth ∷ []) sizes) (all_append_left (reverse four) (fifth ∷ []) piece_bytes)
      (all_append_left (reverse four) (fifth ∷ []) agrees);
  another = rw padded_data (another (reverse four) four_agree);
  sends_late = sends_after taken_limit (after_many taken_limit) (all_agree taken_limit);
  no_other_in_all = rw padded_data (no_other_after taken_limit);
  another_in_time = another_in_time;
  ends_open = ((purpose fips Of3By2 the_data (after_many taken_limit) (sends_after taken_limit (heard (after_many taken_limit)) (front_agrees taken_limit))).left_open another_in_time []).0;
}
