-- `Blocks`: a table as blocks, and a block put. `Lookup`: where a code is. `Frame`: what a write of one code's block leaves. `Overlay`: words overwritten.
-- `Zeros`: a cleared table. Over any lawful layout: `Values`: a value written, a clearing. `Steps`: a message, and many. `Order`: messages for two codes.
-- `Ours`: from zero words on. `Codes`: codes take slots in order. `Turning`: a message by slots. `Cases`: what the functions' proofs take.
pub mod Blocks
pub mod Lookup
pub mod Frame
pub mod Overlay
pub mod Zeros
pub mod Values
pub mod Steps
pub mod Order
pub mod Ours
pub mod Codes
pub mod Turning
pub mod Cases
pub mod Lawful
