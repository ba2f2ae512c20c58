-- The history of a run: its exchanges, made from the first directory, the batches of changes, the moments, the blocks of random
-- octets, and the bytes that were taken of each caller.
use Rattle.std.specs.Prelude.{ℕ, zero, suc, List, [], ◌∷◌, ◌++◌, length, map, unwrap_or}
use Rattle.std.proofs.Common.{lit<, lit≤}
use Rattle.change_lines.specs.Batches.{after}
use Rattle.dir_records.specs.DirectoryValue.{DirectoryValue}
use Rattle.kb_base.specs.Batches.{first_batch, later_batches}
use Rattle.kb_base.specs.Blocks.{BlocksValue, block_at, drawn_one}
use Rattle.kb_base.specs.Moments.{first_moment, later_moments}
use Rattle.krb_names.specs.declared.moment.Moment.{Moment}
use Rattle.kdc_frames.specs.Frames.{frames}
use Rattle.kdc_frames.specs.Requests.{Taken, requests_of}
use Rattle.tgs_core.specs.Answers.{answered_to}
use Rattle.tgs_core.specs.declared.answered.Answered.{Answered}
use Rattle.tgs_core.specs.declared.answered.Note.{Note}

-- one request and its reply, in the directory and at the moment of their own
pub record Exchange : Type 0 where
  pub directory : DirectoryValue
  pub moment : Moment
  pub block : List ℕ
  pub request : List ℕ
  pub reply : List ℕ
  pub note : Note

-- what the next exchanges are made from: the directory so far, and the batches, moments and blocks that are left
pub record Inputs : Type 0 where
  pub directory : DirectoryValue
  pub batches : List (List ℕ)
  pub moments : List Moment
  pub blocks : BlocksValue

-- 1970, for a clock without a moment
abbrev pub epoch : Moment
epoch = record { secs = 0; micros = 0; in_range = lit≤ tt; in_second = lit< tt }

-- the inputs after an exchange: its batch is applied, or changes nothing where it is refused; its block and its moment are used,
-- and the last moment repeats
abbrev pub later : Inputs → Inputs
later inputs =
    record {
      directory = after inputs.directory (first_batch inputs.batches);
      batches = later_batches inputs.batches;
      moments = later_moments inputs.moments;
      blocks = drawn_one inputs.blocks;
    }

-- the inputs after so many exchanges
unfoldable pub inputs_after : ℕ → Inputs → Inputs
inputs_after zero inputs = inputs
inputs_after (suc n) inputs = inputs_after n (later inputs)

abbrev pub moment_of : Inputs → Moment
moment_of inputs = unwrap_or (first_moment inputs.moments) epoch

abbrev pub block_of : Inputs → List ℕ
block_of inputs = block_at inputs.blocks.list (drawn_one inputs.blocks).drawn

-- what a request is answered next: after the next batch, at the next moment, with the next block
unfoldable pub answered : Inputs → List ℕ → Answered
answered inputs request = answered_to (later inputs).directory (moment_of inputs) (block_of inputs) request

abbrev pub exchange_of : Inputs → List ℕ → Exchange
exchange_of inputs request =
    record {
      directory = (later inputs).directory;
      moment = moment_of inputs;
      block = block_of inputs;
      request = request;
      reply = (answered inputs request).reply;
      note = (answered inputs request).note;
    }

-- the exchanges of these requests, one after the other
unfoldable pub exchanges : Inputs → List (List ℕ) → List Exchange
exchanges inputs [] = []
exchanges inputs (request ∷ requests) = exchange_of inputs request ∷ exchanges (later inputs) requests

-- the framed replies of exchanges
abbrev pub framed_replies : List Exchange → List ℕ
framed_replies history = frames (map (λ exchange. exchange.reply) history)

-- the requests of callers, one after the other
unfoldable pub all_requests : List Taken → List (List ℕ)
all_requests [] = []
all_requests (taken ∷ callers) = requests_of taken ++ all_requests callers

-- the history of a run, of whose callers this was taken
abbrev pub history_of : Inputs → List Taken → List Exchange
history_of inputs callers = exchanges inputs (all_requests callers)

-- the exchanges of each caller
unfoldable pub exchanges_by_caller : Inputs → List Taken → List (List Exchange)
exchanges_by_caller inputs [] = []
exchanges_by_caller inputs (taken ∷ callers) =
    exchanges inputs (requests_of taken) ∷ exchanges_by_caller (inputs_after (length (requests_of taken)) inputs) callers
