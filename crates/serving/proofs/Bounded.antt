-- How often and how much was read.
use Rattle.std.proofs.Common.{◌≡◌, ◌≤◌, ◌+◌, ℕ, List, [], ◌∷◌, ◌++◌, length, refl, sym, ap, ◌∙◌, append_assoc, append-nil, length-append, arith}
use Rattle.std.specs.Prelude.{All}
use Rattle.std.proofs.lemmas.List.Elements.{All-nil, All-push}
use Rattle.serving.specs.Serving.{most_reads, most_piece, IsBounded, ReadsOnce}
use Rattle.serving.specs.Transfers.{Transfer, transfer_size}

abbrev IsShort : Transfer → Type 0
IsShort t = transfer_size t ≤ most_piece

-- since then it was read so often
pub record HasRead (before : List Transfer) (count : ℕ) (after : List Transfer) : Type 0 where
  pub reads : List Transfer
  pub on : after ≡ before ++ reads
  pub counted : length reads ≡ count
  pub sizes : All (λ t. transfer_size t ≤ most_piece) reads

pub nothing_read : (before : List Transfer) → HasRead before 0 before
nothing_read before = record { reads = []; on = sym (append-nil before); counted = refl; sizes = All-nil _ }

pub once_more : (before middle after : List Transfer) (n room : ℕ) → room ≤ most_piece → HasRead before n middle → ReadsOnce room middle after → HasRead before (n + 1) after
once_more before middle after n room short x y = record {
  reads = x.reads ++ y.0 ∷ [];
  on = y.1 ∙ ap (λ ts. ts ++ y.0 ∷ []) x.on ∙ append_assoc before x.reads (y.0 ∷ []);
  counted = omega (arith, x.counted, length-append x.reads (y.0 ∷ []));
  sizes = All-push IsShort x.reads y.0 x.sizes (omega (arith, short, y.2));
}

pub bounded_by : (before after : List Transfer) (n : ℕ) → HasRead before n after → n ≤ most_reads → IsBounded before after
bounded_by before after n x h = record { reads = x.reads; on = x.on; count = omega (arith, x.counted, h); sizes = x.sizes }
