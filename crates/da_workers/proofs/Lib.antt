mod Deaths
mod LeftOut
mod Serving
mod Sitting
mod Talks
mod WorkerLines
