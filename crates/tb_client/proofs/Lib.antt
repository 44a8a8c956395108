mod Floatless
mod Replies
mod Tries
